use Rattle.std.proofs.Common.{◌≡◌, ◌∙◌, Some, ap, false, sym, true}
use Rattle.outcomes.specs.Observed.{shows_all}
use Rattle.outcomes.specs.Outcome.{Outcome}
use Rattle.outcomes.proofs.Ways.{first_here, first_later}
use Rattle.outcomes.proofs.witness.first_showing.Goals as goal

pub returns-then-shows_all : goal.returns-then-shows_all
returns-then-shows_all c =
    let o : Outcome = c.outcome-item.result in
    let yes : shows_all o c.args.seen.now ≡ true = sym c.shows_all.ensures ∙ c.if-shows_all.true in
    sym (c.loop-outcome.invariant
    ∙ (first_here c.args.outcomes.now c.args.seen.now c.loop-outcome.outcome-index o c.loop-outcome-test.true
    (ap (λ (k : Outcome). shows_all k c.args.seen.now) (sym c.outcome-item.is) ∙ yes)
    ∙ ap (λ (k : Outcome). Some k) (sym c.outcome-item.is)))

pub loop-outcome-preserved : goal.loop-outcome-preserved
loop-outcome-preserved c =
    let o : Outcome = c.outcome-item.result in
    let no : shows_all o c.args.seen.now ≡ false = sym c.shows_all.ensures ∙ c.if-shows_all.false in
    c.loop-outcome.invariant
    ∙ first_later c.args.outcomes.now c.args.seen.now c.loop-outcome.outcome-index o c.loop-outcome-test.true
    (ap (λ (k : Outcome). shows_all k c.args.seen.now) (sym c.outcome-item.is) ∙ no)
