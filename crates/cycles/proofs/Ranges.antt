-- Ranges of numbers, of which a loop takes the first.
use Rattle.std.proofs.Common.{◌≡◌, ◌∙◌, ◌<◌, ◌+◌, ◌-◌, ◌++◌, ◌∷◌, ℕ, suc, List, ap, append_assoc, arith, sym}
use Rattle.std.specs.List.{flat_map, range_with_len}

-- from i up to n there is i, and then those from i + 1
pub range_step : (i n : ℕ) → i < n → range_with_len i (n - i) ≡ i ∷ range_with_len (i + 1) (n - (i + 1))
range_step i n low =
    let size : n - i ≡ suc (n - (i + 1)) = omega (arith, low) in ap (range_with_len i) size

-- what is made of each, after what was made before
pub made_step : {A : Type 0} (f : ℕ → List A) (i n : ℕ) (old new all : List A) → i < n
    → old ++ flat_map f (range_with_len i (n - i)) ≡ all → new ≡ old ++ f i
    → new ++ flat_map f (range_with_len (i + 1) (n - (i + 1))) ≡ all
made_step {A = A} f i n old new all low before is =
    ap (λ (l : List A). l ++ flat_map f (range_with_len (i + 1) (n - (i + 1)))) is
    ∙ (append_assoc old (f i) (flat_map f (range_with_len (i + 1) (n - (i + 1))))
    ∙ (sym (ap (λ (l : List ℕ). old ++ flat_map f l) (range_step i n low)) ∙ before))
