use Rattle.std.proofs.Common.{sym, ◌∙◌}
use Rattle.long.proofs.Steps.{last_store_gone, last_store_here, last_store_passed}
use Rattle.long.proofs.linking.last_store.Goals as goal

pub returns-then-event : goal.returns-then-event
returns-then-event c = λ x start at from last.
    last_store_passed x start c.args.last c.args.event.now.number (sym at.is_load ∙ c.if-event.true) last

pub returns-then-event-2 : goal.returns-then-event-2
returns-then-event-2 c = λ x start at from last. last_store_here x start c.args.event.now.number from
    (sym at.is_load ∙ c.if-event.false) (sym at.is_store ∙ c.if-event-2.true)

pub returns : goal.returns
returns c = λ x start at from last. last_store_gone x start c.args.event.now.number
    (sym at.is_load ∙ c.if-event.false) (sym at.is_store ∙ c.if-event-2.false)
