use Rattle.std.proofs.Common.{◌≡◌, ◌++◌}
use Rattle.std.specs.Vec.Iter.{into_iter_items}
use Rattle.labels.specs.Certified.{lists_of}
use Rattle.search.specs.SourceRow.{numbers_of}
use Rattle.search.proofs.lists.into_lists.Given as goal

abbrev pub invariant-loop-row : goal.invariant-loop-row
invariant-loop-row l = lists_of l.lists.items ++ numbers_of (into_iter_items l.row-iterator)
    ≡ numbers_of l.fn.rows.items
