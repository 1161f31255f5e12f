-- A test of each number below n.
use Rattle.std.proofs.Common.{◌≡◌, ◌<◌, ◌-◌, ◌↔◌, ◌∙◌, IsTrue, Bool, true, false, List, ℕ, ap, sym, subst, length}
use Rattle.std.proofs.Common.{get_or, arith, All}
use Rattle.std.specs.Prelude.{Any, MatchBool}
use Rattle.std.specs.List.{range_with_len}
use Rattle.std.proofs.lemmas.List.FromFn.{get_or-range_with_len, length-range_with_len}
use Rattle.rayon.specs.Numbers.{nat_range}
use Rattle.rayon.proofs.ToStd.{all-iff, nat_range-All}

-- a test of each number of the range is one of each number below n
pub each_below : (n : ℕ) (Q : ℕ → Type 0) (b : Bool) (xs : List ℕ) → xs ≡ nat_range 0 n
    → MatchBool b (All (λ i. IsTrue true ↔ Q i) xs) (Any (λ i. IsTrue false ↔ Q i) xs)
    → IsTrue b ↔ ((i : ℕ) → i < n → Q i)
each_below n Q b xs is says =
    let each : IsTrue b ↔ All Q xs = all-iff Q xs b says in
    let whole : n - 0 ≡ n = omega arith in
    let numbers : xs ≡ range_with_len 0 n = is ∙ ap (range_with_len 0) whole in (
      λ yes i low.
          let here : i < length xs = subst (λ (k : ℕ). i < k)
          (sym (ap (λ (l : List ℕ). length l) numbers ∙ length-range_with_len 0 n)) low in
          let at : get_or xs i 0 ≡ i = ap (λ (l : List ℕ). get_or l i 0) numbers
          ∙ omega (arith, get_or-range_with_len 0 n i 0 low) in
          subst Q at (each.0 yes i 0 here),
      λ all. each.1 (subst (λ (l : List ℕ). All Q l) (sym is) (nat_range-All Q 0 n (λ i from below. all i below))),
    )
