use Rattle.std.proofs.Common.{◌≡◌, true, false, sym, ◌∙◌}
use Rattle.completion.proofs.Fed.{leaves_unfed}
use Rattle.completion.proofs.MemberCounts.{removed_members}
use Rattle.completion.proofs.dropping.drop_unfed.Goals as goal
use Rattle.completion.proofs.dropping.drop_unfed.Goals.{then-not-test-via-then-not-test}
use Rattle.completion.proofs.dropping.drop_unfed.Goals.{then-not-test-via-else-not-test+then-may_stay}

pub returns-then-not-test-clause-stays : goal.returns-then-not-test-clause-stays
returns-then-not-test-clause-stays c same inside s may = elim c.then-not-test.branch [
  | then-not-test-via-then-not-test w ↦
      absurd (let clash : false ≡ true = sym w.if-not-test.true ∙ (c.test.ensures ∙ inside) in cc)
  | then-not-test-via-else-not-test+then-may_stay w ↦ w.may_stay.ensures.holds w.if-may_stay.true s may
]

pub returns-clause-leaves : goal.returns-clause-leaves
returns-clause-leaves c = leaves_unfed c.args.values.now c.args.row.now c.remove.new.self c.args.e
    (c.may_stay.ensures.fed c.if-may_stay.false) (c.may_stay.ensures.unfed c.if-may_stay.false)
    c.remove.ensures.numbers

pub returns-clause-fewer : goal.returns-clause-fewer
returns-clause-fewer c done = removed_members c.remove.new.self c.args.row.now c.args.e c.remove.ensures.len
    c.remove.ensures.numbers (sym c.test.ensures ∙ c.if-not-test.false)
