-- Words that are combined with others, one after the other.
use Rattle.std.proofs.Common.{◌≡◌, ◌<◌, ◌≤◌, ◌+◌, inl, inr, ℕ, List, [], ◌∷◌, length, set, get_or, arith, refl, ap, ◌∙◌}
use Rattle.std.proofs.Common.{zero, suc, sym, get_or-set_other, get_or-set_same, length-set}
use Rattle.std.proofs.lemmas.Bool.{cases_eq}
use Rattle.std.specs.Simd.Lanes.{fold_l}
use Rattle.std.specs.Prelude.{bit_or}
use Rattle.std.proofs.lemmas.Nat.{le_or_l, le_or_r}

-- those before one are combined, the rest is as it was
pub record IsCombined (f : ℕ → ℕ → ℕ) (before other : List ℕ) (k : ℕ) (now : List ℕ) : Type 0 where
  pub size : length now ≡ length before
  pub done : (m : ℕ) → m < k → get_or now m 0 ≡ f (get_or before m 0) (get_or other m 0)
  pub left : (m : ℕ) → k ≤ m → get_or now m 0 ≡ get_or before m 0

-- none yet
pub combined_none : (f : ℕ → ℕ → ℕ) (words other : List ℕ) → IsCombined f words other 0 words
combined_none f words other = record {
  size = refl;
  done = λ m below. absurd (omega (arith, below));
  left = λ m above. refl;
}

-- one more
pub combined_more : (f : ℕ → ℕ → ℕ) (before other now : List ℕ) (k word : ℕ) → k < length before
    → word ≡ f (get_or now k 0) (get_or other k 0) → IsCombined f before other k now
    → IsCombined f before other (k + 1) (set now k word)
combined_more f before other now k word inside is h = record {
  size = length-set now k word ∙ h.size;
  done = λ m below. elim (cases_eq m k) [
    | inl here ↦ ap (λ (i : ℕ). get_or (set now k word) i 0) here
        ∙ (get_or-set_same now k word 0 (omega (arith, inside, h.size))
        ∙ (is ∙ (ap (λ (w : ℕ). f w (get_or other k 0)) (h.left k (omega arith))
        ∙ ap (λ (i : ℕ). f (get_or before i 0) (get_or other i 0)) (sym here))))
    | inr apart ↦ get_or-set_other now k m word 0 apart ∙ h.done m (omega (arith, below, apart))
  ];
  left = λ m above. get_or-set_other now k m word 0 (λ is_k. omega (arith, is_k, above))
      ∙ h.left m (omega (arith, above));
}

-- words that are joined to 0 are 0
pub none_joined : (xs : List ℕ) (a : ℕ) → fold_l bit_or a xs ≡ 0 → (a ≡ 0) × ((i : ℕ) → get_or xs i 0 ≡ 0)
none_joined [] a h = (h, λ i. refl)
none_joined (x ∷ xs) a h =
    let rest : (bit_or a x ≡ 0) × ((i : ℕ) → get_or xs i 0 ≡ 0) = none_joined xs (bit_or a x) h in
    (omega (arith, rest.0, le_or_l a x), each rest.1 (omega (arith, rest.0, le_or_r a x)))
  where
    each : ((i : ℕ) → get_or xs i 0 ≡ 0) → x ≡ 0 → (i : ℕ) → get_or (x ∷ xs) i 0 ≡ 0
    each tail head zero = head
    each tail head (suc i) = tail i
