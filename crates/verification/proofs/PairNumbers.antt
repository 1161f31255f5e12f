-- The numbers of the pairs of a cycle, by their places.
use Rattle.std.proofs.Common.{◌≡◌, ◌<◌, ◌+◌, ◌*◌, ◌-◌, ◌++◌, ◌∷◌, [], ℕ, zero, suc, List, inl, inr, arith, ap, sym}
use Rattle.std.proofs.Common.{◌∙◌, append_assoc, get_or, length, length-append}
use Rattle.std.proofs.lemmas.Bool.{cases_lt}
use Rattle.std.proofs.lemmas.List.{get_or_append_left, get_or_default}
use Rattle.std.proofs.Math.Seq.{get_or-append_seam}
use Rattle.relations.specs.Cycle.{next_in_cycle}
use Rattle.verification.specs.Spelled.{pair_numbers}

-- two numbers for each pair
pub pairs_size : (c : List ℕ) (n : ℕ) → length (pair_numbers c n) ≡ 2 * n
pairs_size c zero = omega arith
pairs_size c (suc n) = omega (
  arith,
  pairs_size c n,
  length-append (pair_numbers c n) (get_or c n 0 ∷ next_in_cycle c n ∷ []),
)

-- the first number of a pair is an event
pair_first : (c : List ℕ) (n i : ℕ) → i < n → get_or (pair_numbers c n) (2 * i) 0 ≡ get_or c i 0
pair_first c zero i low = absurd (omega arith)
pair_first c (suc n) i low =
    let front = pair_numbers c n in
    let size : length front ≡ 2 * n = pairs_size c n in
    let last = get_or c n 0 ∷ next_in_cycle c n ∷ [] in
    elim (cases_lt i n) [
      | inl before ↦ get_or_append_left front last 0 (2 * i) (omega (arith, before, size)) ∙ pair_first c n i before
      | inr not ↦ let here : n ≡ i = omega (arith, low, not) in
          ap (λ (k : ℕ). get_or (front ++ last) k 0) (omega (arith, size, here))
          ∙ get_or-append_seam front (get_or c n 0) (next_in_cycle c n ∷ []) 0 ∙ ap (λ (k : ℕ). get_or c k 0) here
    ]

-- the second is the event after it
pair_second : (c : List ℕ) (n i : ℕ) → i < n → get_or (pair_numbers c n) (2 * i + 1) 0 ≡ next_in_cycle c i
pair_second c zero i low = absurd (omega arith)
pair_second c (suc n) i low =
    let front = pair_numbers c n in
    let size : length front ≡ 2 * n = pairs_size c n in
    let first = get_or c n 0 in
    let second = next_in_cycle c n in
    let most = front ++ first ∷ [] in
    elim (cases_lt i n) [
      | inl before ↦
          get_or_append_left front (first ∷ second ∷ []) 0 (2 * i + 1) (omega (arith, before, size))
          ∙ pair_second c n i before
      | inr not ↦ let here : n ≡ i = omega (arith, low, not) in
          ap (λ (t : List ℕ). get_or t (2 * i + 1) 0) (sym (append_assoc front (first ∷ []) (second ∷ [])))
          ∙ ap (λ (k : ℕ). get_or (most ++ second ∷ []) k 0)
          (omega (arith, size, here, length-append front (first ∷ [])))
          ∙ get_or-append_seam most second [] 0 ∙ ap (λ (k : ℕ). next_in_cycle c k) here
    ]

-- so each event of a cycle is the number before that of its own pair, and the first that of its own
pub event_at : (c : List ℕ) (i : ℕ) → i < length c → get_or (pair_numbers c (length c)) (2 * i - 1) 0 ≡ get_or c i 0
event_at c zero low =
    ap (λ (k : ℕ). get_or (pair_numbers c (length c)) k 0) (omega arith) ∙ pair_first c (length c) 0 low
event_at c (suc i) low =
    let place : 2 * suc i - 1 ≡ 2 * i + 1 = omega arith in
    let next : i + 1 ≡ suc i = omega arith in
    ap (λ (k : ℕ). get_or (pair_numbers c (length c)) k 0) place
    ∙ pair_second c (length c) i (omega (arith, low))
    ∙ ap (λ (k : ℕ). get_or c k (get_or c 0 0)) next
    ∙ get_or_default c (suc i) (get_or c 0 0) 0 low
