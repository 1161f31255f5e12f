-- A number without its lowest bit that is 1.
use Rattle.std.proofs.Common.{◌≡◌, ◌<◌, ◌-◌, ◌/◌, inl, inr, ℕ, zero, suc, arith, sym, ap, ◌∙◌}
use Rattle.std.specs.Prelude.{bit_and}
use Rattle.std.specs.Int.{bit_at}
use Rattle.std.proofs.lemmas.Bool.{cases_eq, cases_lt}
use Rattle.std.proofs.lemmas.Nat.Bits.{bit_at_lowest, bit_at-suc, bit_at-zero, bit_at_and}

-- one less has 0 in the place of the lowest 1, and the bits above it
one_less : (b n : ℕ) → bit_at n b ≡ 1 → ((i : ℕ) → i < b → bit_at n i ≡ 0)
    → (bit_at (n - 1) b ≡ 0) × ((i : ℕ) → b < i → bit_at (n - 1) i ≡ bit_at n i)
one_less zero n one low =
    let half : (n - 1) / 2 ≡ n / 2 = omega (arith, one, bit_at_lowest n) in (
      omega (arith, one, bit_at_lowest n, bit_at_lowest (n - 1)),
      λ i above. go half i above,
    )
  where
    go : (n - 1) / 2 ≡ n / 2 → (i : ℕ) → 0 < i → bit_at (n - 1) i ≡ bit_at n i
    go half zero above = absurd (omega (arith, above))
    go half (suc i) above = bit_at-suc (n - 1) i ∙ (ap (λ (x : ℕ). bit_at x i) half ∙ sym (bit_at-suc n i))
one_less (suc b) n one low =
    let even : bit_at n 0 ≡ 0 = low 0 (omega arith) in
    let upper : bit_at (n / 2) b ≡ 1 = sym (bit_at-suc n b) ∙ one in
    let some : 0 < n / 2 = elim (cases_eq (n / 2) 0) [
      | inl none ↦ absurd (omega (arith, upper, ap (λ (x : ℕ). bit_at x b) none, bit_at-zero b))
      | inr other ↦ omega (arith, other)
    ] in
    let half : (n - 1) / 2 ≡ n / 2 - 1 = omega (arith, even, some, bit_at_lowest n) in
    let rest = one_less b (n / 2) upper (λ i below. sym (bit_at-suc n i) ∙ low (suc i) (omega (arith, below))) in (
      bit_at-suc (n - 1) b ∙ (ap (λ (x : ℕ). bit_at x b) half ∙ rest.0),
      λ i above. go half rest.1 i above,
    )
  where
    go : (n - 1) / 2 ≡ n / 2 - 1 → ((i : ℕ) → b < i → bit_at (n / 2 - 1) i ≡ bit_at (n / 2) i) → (i : ℕ)
        → suc b < i → bit_at (n - 1) i ≡ bit_at n i
    go half rest zero above = absurd (omega (arith, above))
    go half rest (suc i) above = bit_at-suc (n - 1) i ∙ (ap (λ (x : ℕ). bit_at x i) half
        ∙ (rest i (omega (arith, above)) ∙ sym (bit_at-suc n i)))

-- the number and one less have its bits, but the lowest
pub and_one_less : (n b : ℕ) → bit_at n b ≡ 1 → ((i : ℕ) → i < b → bit_at n i ≡ 0)
    → (bit_at (bit_and n (n - 1)) b ≡ 0) × ((i : ℕ) → (i ≡ b → ⊥) → bit_at (bit_and n (n - 1)) i ≡ bit_at n i)
and_one_less n b one low =
    let less = one_less b n one low in (
      omega (arith, bit_at_and n (n - 1) b, less.0),
      λ i other. elim (cases_lt i b) [
        | inl below ↦ omega (arith, bit_at_and n (n - 1) i, low i below)
        | inr above ↦ omega (arith, bit_at_and n (n - 1) i, less.1 i (omega (arith, above, other)))
      ],
    )
