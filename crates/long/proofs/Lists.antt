-- Lists with one item more.
use Rattle.std.proofs.Common.{◌≡◌, ◌≢◌, ◌<◌, ◌+◌, ◌-◌, inl, inr, ℕ, zero, suc, List, [], ◌∷◌, ◌++◌, get_or, length}
use Rattle.std.proofs.Common.{Result, Ok, Err, IfOk, arith, refl, subst, length-append}
use Rattle.std.proofs.lemmas.Bool.{cases_lt}
use Rattle.std.proofs.lemmas.List.{get_or_push, get_or_append_left}
use Rattle.recording.specs.Order.{times}
use Rattle.recording.specs.OrderLaws.{times_append, times_here, times_there, times_nil}
use Rattle.relations.specs.Cycle.{Leads, IsCycle, next_in_cycle}

-- there is one item more
pub length_push : {A : Type 0} (xs : List A) (y : A) → length (xs ++ y ∷ []) ≡ length xs + 1
length_push xs y = omega (arith, length-append xs (y ∷ []))

-- what is given is so where it is otherwise
pub if_ok : {A E : Type 0} {P Q : A → Type 0} (r : Result A E) → ((a : A) → P a → Q a) → IfOk r P → IfOk r Q
if_ok (Ok a) then h = then a h
if_ok (Err e) then h = tt

-- what was pushed stands once more
pub times_push_same : (xs : List ℕ) (y : ℕ) → times (xs ++ y ∷ []) y ≡ times xs y + 1
times_push_same xs y = omega (arith, times_append xs (y ∷ []) y, times_here [] y y refl, times_nil y)

-- another number as often
pub times_push_other : (xs : List ℕ) (y e : ℕ) → y ≢ e → times (xs ++ y ∷ []) e ≡ times xs e
times_push_other xs y e h = omega (arith, times_append xs (y ∷ []) e, times_there [] y e h, times_nil e)

-- what holds of each item holds with one more
pub each_push : {A : Type 0} (P : ℕ → A → Type 0) (xs : List A) (y d : A)
    → ((i : ℕ) → i < length xs → P i (get_or xs i d)) → P (length xs) y → (i : ℕ) → i < length (xs ++ y ∷ [])
    → P i (get_or (xs ++ y ∷ []) i d)
each_push P xs y d rest last i h = elim (cases_lt i (length xs)) [
  | inl before ↦ rw (get_or_append_left xs (y ∷ []) d i before) (rest i before)
  | inr here ↦
      let one : length xs ≡ i = omega (arith, h, here, length_push xs y) in
      rw (get_or_push xs y d i one) (rw one at last)
]

-- along a list that leads back each item is related to the next
leads_at : (R : ℕ → ℕ → Type 0) (e : ℕ) (es : List ℕ) (back : ℕ) → Leads R e es back → (i : ℕ)
    → i < length (e ∷ es) → R (get_or (e ∷ es) i 0) (get_or (e ∷ es) (suc i) back)
leads_at R e [] back h zero low = h
leads_at R e [] back h (suc i) low = absurd (omega (arith, low))
leads_at R e (f ∷ fs) back h zero low = h.0
leads_at R e (f ∷ fs) back h (suc i) low = leads_at R f fs back h.1 i (omega (arith, low))

-- so it is in a cycle
pub cycle_next : (R : ℕ → ℕ → Type 0) (c : List ℕ) → IsCycle R c → (i : ℕ) → i < length c
    → R (get_or c i 0) (next_in_cycle c i)
cycle_next R [] h i low = absurd h
cycle_next R (e ∷ es) h i low =
    let next : suc i ≡ i + 1 = omega arith in
    subst (λ (n : ℕ). R (get_or (e ∷ es) i 0) (get_or (e ∷ es) n e)) next (leads_at R e es e h i low)

-- a cycle has an item
pub cycle_some : (R : ℕ → ℕ → Type 0) (c : List ℕ) → IsCycle R c → 0 < length c
cycle_some R [] h = absurd h
cycle_some R (e ∷ es) h = omega arith

-- a list of which each item is related to the next, and the last to another, leads there
leads_of : (R : ℕ → ℕ → Type 0) (e : ℕ) (es : List ℕ) (back : ℕ)
    → ((i : ℕ) → suc i < length (e ∷ es) → R (get_or (e ∷ es) i 0) (get_or (e ∷ es) (suc i) 0))
    → R (get_or (e ∷ es) (length es) 0) back → Leads R e es back
leads_of R e [] back next last = last
leads_of R e (f ∷ fs) back next last =
    (next zero (omega arith), leads_of R f fs back (λ i low. next (suc i) (omega (arith, low))) last)

-- a list of which each item is related to the next, and the last to the first, is a cycle
pub cycle_of_items : (R : ℕ → ℕ → Type 0) (c : List ℕ) → 0 < length c
    → ((i : ℕ) → i + 1 < length c → R (get_or c i 0) (get_or c (i + 1) 0))
    → R (get_or c (length c - 1) 0) (get_or c 0 0) → IsCycle R c
cycle_of_items R [] some next back = absurd (omega (arith, some))
cycle_of_items R (e ∷ es) some next back = leads_of R e es e
    (λ i low. let one : i + 1 ≡ suc i = omega arith in
    subst (λ (n : ℕ). R (get_or (e ∷ es) i 0) (get_or (e ∷ es) n 0)) one (next i (omega (arith, low))))
    (let one : length (e ∷ es) - 1 ≡ length es = omega arith in
    subst (λ (n : ℕ). R (get_or (e ∷ es) n 0) e) one back)
