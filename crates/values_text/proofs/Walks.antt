-- Reading one core more.
use Rattle.std.proofs.Common.{◌≡◌, ◌<◌, ◌+◌, ◌∙◌, ℕ, List, [], ◌∷◌, ◌++◌, map, flat_map, drop, length, get_or}
use Rattle.std.proofs.Common.{refl, sym, ap, append_assoc, Vec, Global}
use Rattle.std.proofs.lemmas.List.{drop_more}
use Rattle.std.proofs.lemmas.List.Concat.{flat_map-cons}

-- the lists of some vectors
abbrev pub lists_of : {A : Type 0} → List (Vec A Global) → List (List A)
lists_of vs = map (λ w. w.items) vs

-- what was made of the cores before, and what is made of the others, is what is made of all
pub made_more : {A B : Type 0} (f : A → B) (vs : List (Vec A Global)) (i : ℕ) (v : Vec A Global)
    (front more all : List (List B)) (es : List B) → i < length vs → v ≡ get_or vs i v → es ≡ map f v.items
    → more ≡ front ++ es ∷ [] → front ++ map (map f) (lists_of (drop i vs)) ≡ all
    → more ++ map (map f) (lists_of (drop (i + 1) vs)) ≡ all
made_more {A} {B} f vs i v front more all es at is made push same =
    let rest : map (map f) (lists_of (drop i vs)) ≡ map f v.items ∷ map (map f) (lists_of (drop (i + 1) vs)) =
    rw (drop_more vs i v at, ← is) refl in
    rw push (append_assoc front (es ∷ []) (map (map f) (lists_of (drop (i + 1) vs)))
    ∙ (ap (λ (l : List (List B)). front ++ l) (ap (λ (l : List B). l ∷ map (map f) (lists_of (drop (i + 1) vs))) made
    ∙ sym rest) ∙ same))

-- and so it is with what is put in one list
pub joined_more : {A B : Type 0} (f : A → B) (vs : List (Vec A Global)) (i : ℕ) (v : Vec A Global)
    (front more all : List B) → i < length vs → v ≡ get_or vs i v → more ≡ front ++ map f v.items
    → front ++ flat_map (map f) (lists_of (drop i vs)) ≡ all
    → more ++ flat_map (map f) (lists_of (drop (i + 1) vs)) ≡ all
joined_more {A} {B} f vs i v front more all at is push same =
    let rest : flat_map (map f) (lists_of (drop i vs))
    ≡ map f v.items ++ flat_map (map f) (lists_of (drop (i + 1) vs)) =
    rw (drop_more vs i v at, ← is) (flat_map-cons (map f) v.items (lists_of (drop (i + 1) vs))) in
    rw push (append_assoc front (map f v.items) (flat_map (map f) (lists_of (drop (i + 1) vs)))
    ∙ (ap (λ (l : List B). front ++ l) (sym rest) ∙ same))
