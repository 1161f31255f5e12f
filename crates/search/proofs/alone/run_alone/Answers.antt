use Rattle.std.proofs.Common.{◌≡◌, ℕ, Option, None, List, length, sym, subst, arith}
use Rattle.relations.specs.Relation.{Table}
use Rattle.search.specs.SourceRow.{SourceRow, AreLeastRows}
use Rattle.search.proofs.Labels.{least_none}
use Rattle.search.proofs.alone.run_alone.Goals as goal

pub returns-then-is_empty : goal.returns-then-is_empty
returns-then-is_empty c =
    let none : length c.args.jobs.items ≡ 0 = grind (arith, c.is_empty.ensures, c.if-is_empty.true) in
    λ t h. (
      None,
      subst (λ (rows : List SourceRow). AreLeastRows t None rows) (sym c.new.ensures.items)
          (least_none t c.args.jobs.items none h),
    )

pub returns : goal.returns
returns c = λ t h.
    subst (λ (x : Table). (cap : Option ℕ) × AreLeastRows x cap c.in_ok-rows_alone.field-0.items)
    (c.in_ok-relation.ensures t h.shared) c.in_ok-rows_alone.ensures
