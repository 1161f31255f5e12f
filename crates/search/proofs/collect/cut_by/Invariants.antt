use Rattle.std.proofs.Common.{◌≡◌, ◌<◌, ◌≤◌, ℕ, length, get_or}
use Rattle.search.specs.SourceRow.{SourceRow, IsNamed, IsSourceRow}
use Rattle.search.proofs.collect.cut_by.Given as goal

abbrev pub invariant-loop-row : goal.invariant-loop-row
invariant-loop-row l = record {
  size : length l.row-items ≡ length l.fn.rows.items;
  cut : (v : ℕ) (d : SourceRow) → v < l.row-index → IsNamed l.relation l.cap v (get_or l.row-items v d)
      × IsSourceRow (get_or l.row-items v d);
  kept : (v : ℕ) (d : SourceRow) → l.row-index ≤ v → get_or l.row-items v d ≡ get_or l.fn.rows.items v d;
}
