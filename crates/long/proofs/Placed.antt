-- Lists whose numbers have their places.
use Rattle.std.proofs.Common.{◌≡◌, ◌<◌, ◌≤◌, ◌+◌, inl, inr, ℕ, zero, suc, List, [], ◌∷◌, get_or, length, arith}
use Rattle.std.proofs.Common.{sym, subst, ap, ◌∙◌}
use Rattle.std.proofs.Common.{replicate}
use Rattle.std.proofs.lemmas.Bool.{cases_eq}
use Rattle.std.proofs.lemmas.List.{length-replicate, get_or-replicate}
use Rattle.recording.specs.Order.{Enumerates, place, times}
use Rattle.recording.specs.OrderLaws.{cases_times, place_in, times_here, times_there, times_nil}
use Rattle.recording.specs.PlaceLaws.{at_place, place_at}
use Rattle.recording.specs.EnumerationLaws.{all_listed}
use Rattle.long.specs.Positions.{ArePlaced, ArePositions}

-- a list that has each number at the place that is kept for it, or as far after that, has it once
once_from : (P : ℕ → ℕ) (xs : List ℕ) (k : ℕ) → ((j : ℕ) → j < length xs → P (get_or xs j 0) ≡ j + k) → (e : ℕ)
    → times xs e ≤ 1
once_from P [] k each e = omega (arith, times_nil e)
once_from P (x ∷ xs) k each e = elim (cases_eq x e) [
  | inl is ↦ elim (cases_times xs e) [
    | inl none ↦ omega (arith, none, times_here xs x e is)
    | inr some ↦
        let low : place xs e < length xs = place_in xs e some in
        let there : P (get_or xs (place xs e) 0) ≡ suc (place xs e) + k =
        each (suc (place xs e)) (omega (arith, low)) in
        let one : P e ≡ suc (place xs e) + k = ap P (sym (at_place xs e low)) ∙ there in
        let other : P x ≡ zero + k = each zero (omega arith) in
        let same : P x ≡ P e = ap P is in
        absurd (omega (arith, one, other, same))
  ]
  | inr apart ↦
      let rest : times xs e ≤ 1 = once_from P xs (k + 1) (λ j low.
      let there : P (get_or xs j 0) ≡ suc j + k = each (suc j) (omega (arith, low)) in
      let up : suc j + k ≡ j + (k + 1) = omega arith in there ∙ up) e in
      omega (arith, rest, times_there xs x e apart)
]

-- where all numbers of a list have their places, it has each number below n once
pub placed_all : (m : List ℕ) (n : ℕ) (v : List ℕ) → length m ≡ n → ArePlaced m n n v
    → Enumerates (λ e. e < n) m × ArePositions m n v
placed_all m n v size a =
    let once : (e : ℕ) → times m e ≤ 1 = once_from (λ e. get_or v e 0) m 0 (λ j low.
    let up : j ≡ j + 0 = omega arith in a.placed j (omega (arith, low, size)) ∙ up) in
    let within : (e : ℕ) → 0 < times m e → e < n = λ e some.
    let low : place m e < length m = place_in m e some in
    subst (λ (k : ℕ). k < n) (at_place m e low) (a.within (place m e) (omega (arith, low, size))) in
    let total : Enumerates (λ e. e < n) m = all_listed n m once within size in (
      total,
      record {
        size = a.size;
        each = λ e below.
            let low : place m e < length m = place_in m e (omega (arith, total.once e below)) in
            ap (λ (k : ℕ). get_or v k 0) (sym (at_place m e low)) ∙ a.placed (place m e) (omega (arith, low, size));
      },
    )

-- a number that stands again
pub placed_again : (m : List ℕ) (n k : ℕ) (v : List ℕ) → ArePlaced m n k v → k < length m → get_or m k 0 < n
    → get_or v (get_or m k 0) 0 < n → ¬ Enumerates (λ e. e < n) m
placed_again m n k v a room low there total =
    let e : ℕ = get_or m k 0 in
    let was = a.only e low there in
    let once : times m e ≡ 1 = total.once e low in
    let here : place m e ≡ k = place_at m k room (omega (arith, once)) in
    let before : place m (get_or m (get_or v e 0) 0) ≡ get_or v e 0 = place_at m (get_or v e 0)
    (omega (arith, was.0, room)) (omega (arith, once, ap (λ (i : ℕ). times m i) was.1)) in
    omega (arith, here, before, was.0, ap (λ (i : ℕ). place m i) was.1)

-- no number yet
pub placed_none : (m : List ℕ) (n : ℕ) (v : List ℕ) → v ≡ replicate n n → ArePlaced m n 0 v
placed_none m n v is = record {
  size = ap (λ (l : List ℕ). length l) is ∙ length-replicate {A = ℕ} n n;
  within = λ j none. absurd (omega (arith, none));
  placed = λ j none. absurd (omega (arith, none));
  only = λ e low there. absurd (omega (
    arith,
    there,
    ap (λ (l : List ℕ). get_or l e 0) is,
    get_or-replicate {A = ℕ} n e n 0 low,
  ));
}
