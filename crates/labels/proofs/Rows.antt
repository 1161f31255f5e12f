-- The list of a vector among rows.
use Rattle.std.proofs.Common.{◌≡◌, ◌<◌, ℕ, List, [], get_or, length, Vec, Global, sym, ap, ◌∙◌}
use Rattle.std.proofs.lemmas.List.{get_or-map}
use Rattle.labels.specs.Certified.{lists_of}

-- the list of the vector that stands at v
pub row_seen : (rows : List (Vec ℕ Global)) (v : ℕ) (row : Vec ℕ Global) → v < length rows
    → row ≡ get_or rows v row → get_or (lists_of rows) v [] ≡ row.items
row_seen rows v row at read = get_or-map (λ (r : Vec ℕ Global). r.items) rows v row [] at
    ∙ ap (λ (r : Vec ℕ Global). r.items) (sym read)
