use Rattle.std.proofs.Common.{◌≡◌, ◌<◌, ℕ, Option, List, length, get_or, IfSome}
use Rattle.search.specs.SourceRow.{SourceRow}
use Rattle.search.specs.Slots.{IsRowFrom}
use Rattle.search.proofs.slots.empty_slots.Given as goal

abbrev pub invariant-loop : goal.invariant-loop
invariant-loop l =
    (length l.slots.items ≡ l.counter)
    × ((lengths : List ℕ) (v : ℕ) (d : Option SourceRow) → v < l.counter → IfSome (get_or l.slots.items v d)
    (IsRowFrom l.relation lengths v))
