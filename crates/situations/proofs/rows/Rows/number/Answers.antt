use Rattle.std.proofs.Common.{◌≡◌, ◌∙◌, ℕ, Option, None, Some, IfNone, IfSome, List, ap, false, map, slice_get, sym}
use Rattle.std.specs.List.{Contains, list_any}
use Rattle.situations.specs.Row.{SeenRows, row_of, same_situation}
use Rattle.situations.specs.Situation.{Situation}
use Rattle.situations.proofs.SeenRows.{made_among, no_row, row_at}
use Rattle.situations.proofs.rows.Rows.number.Goals as goal

-- what is found of lists is found of rows
found_row : (n a : ℕ) (lists : List (List ℕ)) (words : List ℕ) (keys : List Situation) (r : Situation) (o : Option ℕ)
    → map (row_of n a) lists ≡ keys → row_of n a words ≡ r → IfSome o (λ i. slice_get lists i ≡ Some words)
    → IfSome o (λ i. slice_get keys i ≡ Some r)
found_row n a lists words keys r None is made h = tt
found_row n a lists words keys r (Some i) is made h =
    ap (λ (l : List Situation). slice_get l i) (sym is)
    ∙ (row_at n a lists words i h ∙ ap (λ (z : Situation). Some z) made)

-- and what is not
none_found : (n a : ℕ) (lists : List (List ℕ)) (words : List ℕ) (keys : List Situation) (r : Situation) (o : Option ℕ)
    → map (row_of n a) lists ≡ keys → row_of n a words ≡ r → IfNone o (Contains lists words → ⊥)
    → IfNone o (list_any (same_situation r) keys ≡ false)
none_found n a lists words keys r None is made h =
    ap (λ (l : List Situation). list_any (same_situation r) l) (sym is)
    ∙ (ap (λ (z : Situation). list_any (same_situation z) (map (row_of n a) lists)) (sym made)
    ∙ no_row n a lists words h)
none_found n a lists words keys r (Some i) is made h = tt

pub returns-clause-known : goal.returns-clause-known
returns-clause-known c =
    let rows : SeenRows = c.args.self.now in
    found_row c.self.inside.cores c.self.inside.addresses c.self.inside.lists.lists c.words.result.now rows.keys
    c.args.row.now c.number.result (ap (λ (z : SeenRows). z.keys) c.self.view_is)
    (made_among c.self.inside.cores c.self.inside.addresses rows c.args.row.now c.words.result.now
    (ap (λ (z : SeenRows). z.cores) c.self.view_is) (ap (λ (z : SeenRows). z.addresses) c.self.view_is) c.requires
    c.words.ensures.row) c.number.ensures.found

pub returns-clause-new : goal.returns-clause-new
returns-clause-new c =
    let rows : SeenRows = c.args.self.now in
    none_found c.self.inside.cores c.self.inside.addresses c.self.inside.lists.lists c.words.result.now rows.keys
    c.args.row.now c.number.result (ap (λ (z : SeenRows). z.keys) c.self.view_is)
    (made_among c.self.inside.cores c.self.inside.addresses rows c.args.row.now c.words.result.now
    (ap (λ (z : SeenRows). z.cores) c.self.view_is) (ap (λ (z : SeenRows). z.addresses) c.self.view_is) c.requires
    c.words.ensures.row) c.number.ensures.none
