-- Rows that are collected by source.
use Rattle.std.specs.Prelude.{◌≡◌, ◌<◌, ℕ, Option, Some, None, List, length, slice_index, slice_index_or, min}
use Rattle.std.specs.Prelude.{IfSome}
use Rattle.relations.specs.Relation.{Table, Related}
use Rattle.search.specs.SourceRow.{SourceRow}
use Rattle.search.specs.Bound.{Covers}

-- the row of v in the relation, through which no cycle is shorter than each of the known lengths
pub record IsRowFrom (t : Table) (lengths : List ℕ) (v : ℕ) (row : SourceRow) : Type 0 where
  pub shares : row.relation ≡ t
  pub from : row.source ≡ v
  pub covers : Covers (Related t) lengths v

-- places for the rows of the first events, filled by no other
abbrev pub AreSlots : Table → List ℕ → List (Option SourceRow) → Type 0
AreSlots t lengths slots = (v : ℕ) (d : Option SourceRow) → v < length slots
    → IfSome (slice_index_or slots v d) (IsRowFrom t lengths v)

-- the rows below i are there
pub record AreSlotsFilled (t : Table) (lengths : List ℕ) (i : ℕ) (rows : List SourceRow) : Type 0 where
  pub size : length rows ≡ i
  pub each : (v : ℕ) (d : SourceRow) → v < i → IsRowFrom t lengths v (slice_index_or rows v d)

-- each label cut at the cap, if there is one
abbrev pub IsCutAt : Option ℕ → List ℕ → List ℕ → Type 0
IsCutAt None before after = after ≡ before
IsCutAt (Some k) before after = (length after ≡ length before)
    × ((e : ℕ) → slice_index after e ≡ min (slice_index before e) k)
