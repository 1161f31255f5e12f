-- Lines, and what stands after them.
use Rattle.std.proofs.Common.{◌≡◌, ◌∙◌, ◌<◌, ◌≤◌, ◌++◌, ◌∷◌, ℕ, List, Some, ap, append_assoc, arith, codes, decimal}
use Rattle.std.proofs.Common.{drop, false, get_or, inl, inr, le-ltb, lt-ltb, nat_eq, nat_lt, ne_eqb, refl, sym, true}
use Rattle.std.proofs.lemmas.Bool.{cases_lt, false≢true}
use Rattle.ledger.specs.declared.code.TheConstants.{LONG_CYCLE}
use Rattle.ledger.specs.Counted.{cycle_line, length_name, place_name}
use Rattle.texts.specs.Decimals.{is_digit}
use Rattle.texts.proofs.DigitLemmas.{first_digit}

-- a line of a length of cycles
pub cycle_then : (k n : ℕ) (more : List ℕ) → 0 < n
    → cycle_line k n ++ more ≡ codes "cycle " ++ (length_name k ++ (codes ": " ++ (decimal n ++ 10 ∷ more)))
cycle_then k n more some =
    let fails : nat_eq n 0 ≡ false = ne_eqb n 0 (λ e. omega (arith, e, some)) in
    rw fails (simp append_assoc)

-- what is printed of a place
pub place_then : (noun : List ℕ) (n : ℕ) (more : List ℕ)
    → place_name noun (Some n) ++ more ≡ noun ++ (32 ∷ (decimal n ++ more))
place_then noun n more = append_assoc noun (32 ∷ decimal n) more

-- a length of cycles that is printed, and the one that stands for all longer ones
pub length_below : (n : ℕ) → n < LONG_CYCLE → length_name n ≡ decimal n
length_below n low =
    let test : nat_lt n LONG_CYCLE ≡ true = lt-ltb n LONG_CYCLE low in rw test refl

pub length_over : (n : ℕ) → LONG_CYCLE ≤ n → length_name n ≡ codes "over 512"
length_over n high =
    let test : nat_lt n LONG_CYCLE ≡ false = le-ltb n LONG_CYCLE high in rw test refl

-- a text that begins with what stands for all longer lengths of cycles has that one
pub over_is : (n : ℕ) (text more back : List ℕ) → n ≤ LONG_CYCLE → text ≡ length_name n ++ 58 ∷ more
    → text ≡ codes "over 512" ++ back → (LONG_CYCLE ≡ n) × (back ≡ 58 ∷ more)
over_is n text more back within is over = elim (cases_lt n LONG_CYCLE) [
  | inl low ↦
      let first = first_digit n (58 ∷ more) (omega (arith, low)) in
      let number : text ≡ first.0 ∷ first.1 =
      is ∙ ap (λ (t : List ℕ). t ++ 58 ∷ more) (length_below n low) ∙ first.3 in
      let byte : 111 ≡ first.0 = ap (λ (t : List ℕ). get_or t 0 0) (sym over ∙ number) in
      absurd (false≢true (ap is_digit byte ∙ first.2))
  | inr high ↦ (
    omega (arith, within, high),
    ap (λ (t : List ℕ). drop 8 t) (sym over ∙ is ∙ ap (λ (t : List ℕ). t ++ 58 ∷ more) (length_over n high)),
  )
]
