use Rattle.std.proofs.Common.{sym, ◌∙◌}
use Rattle.long.proofs.Steps.{last_other_here, last_other_passed}
use Rattle.long.proofs.linking.last_other.Goals as goal

pub returns-then-event : goal.returns-then-event
returns-then-event c = λ x start at from last.
    last_other_passed x start c.args.last c.args.event.now.number (sym at.is_store ∙ c.if-event.true) last

pub returns : goal.returns
returns c = λ x start at from last.
    last_other_here x start c.args.event.now.number from (sym at.is_store ∙ c.if-event.false)
