use Rattle.std.proofs.Common.{◌≡◌, ℕ, List, ◌∷◌, ◌++◌, Vec, Global, sym, ap, ◌∙◌}
use Rattle.std.specs.Vec.Iter.{into_iter_items}
use Rattle.labels.specs.Certified.{lists_of}
use Rattle.search.specs.SourceRow.{SourceRow, numbers_of}
use Rattle.search.proofs.Labels.{lists_more}
use Rattle.search.proofs.lists.into_lists.Goals as goal

pub loop-row-preserved : goal.loop-row-preserved
loop-row-preserved c =
    let rest = numbers_of (into_iter_items c.next.new.self) in
    let split : lists_of c.loop-row.lists.items ++ c.in-Some.row.numbers ∷ rest ≡ numbers_of c.args.rows.items
    =
    ap (λ (ls : List SourceRow). lists_of c.loop-row.lists.items ++ numbers_of ls)
    (sym c.in-Some.ensures.steps.0) ∙ c.loop-row.invariant in
    ap (λ (vs : List (Vec ℕ Global)). lists_of vs ++ rest) c.in_ok-push.ensures.items
    ∙ lists_more c.loop-row.lists.items c.into_numbers.result c.in-Some.row.numbers rest
    (numbers_of c.args.rows.items) c.into_numbers.ensures split
