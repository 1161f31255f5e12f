-- What is asked of the rows of a certificate, and of a certificate.
use Rattle.std.specs.Prelude.{◌≡◌, ◌<◌, ℕ, List, [], length, map, slice_index_or, Vec}
use Rattle.std.specs.declared.alloc.Global.{Global}
use Rattle.relations.specs.Relation.{Table, Related}
use Rattle.relations.specs.Cycle.{IsLabelling, IsCertificate}
use Rattle.labels.specs.declared.certificate.Certificate.{Certificate}

-- the labels of each row
abbrev pub lists_of : List (Vec ℕ Global) → List (List ℕ)
lists_of rows = map (λ row. row.items) rows

-- a row for each event, by which no cycle through it has fewer than k events
pub record AreLabellings (t : Table) (k : ℕ) (rows : List (Vec ℕ Global)) : Type 0 where
  pub one_each : length (lists_of rows) ≡ length t
  pub labellings : (v : ℕ) → v < length t
      → IsLabelling (Related t) k (length t) v (slice_index_or (lists_of rows) v [])

-- the rows show that the cycle is a shortest one
abbrev pub Certifies : Table → Certificate → Type 0
Certifies t c = IsCertificate (Related t) (length t) c.cycle.items (lists_of c.rows.items)
