-- The outcomes of the situations that were looked at so far, and one more.
use Rattle.std.proofs.Common.{◌≡◌, ◌<◌, ◌≤◌, ◌+◌, inl, inr, ℕ, Bool, true, false, cond, Some, List}
use Rattle.std.proofs.Common.{[], ◌∷◌, ◌++◌, length, get_or, slice_get, arith, refl, sym, ap, subst, ◌∙◌}
use Rattle.std.specs.List.{All, Contains, list_any}
use Rattle.std.specs.Cmp.Lexicographic.{same_text}
use Rattle.std.proofs.lemmas.List.{get_or_past}
use Rattle.std.proofs.lemmas.List.Elements.{All-push, All-contains_itself, Contains-append_left}
use Rattle.std.specs.List.Sorted.{IsPermutation}
use Rattle.std.proofs.lemmas.List.Sorted.{All-permutation, IsPermutation-sym}
use Rattle.std.proofs.lemmas.Bool.{and_parts, cases_lt}
use Rattle.std.proofs.lemmas.Option.{slice_get-get_or, slice_get_within, get_or_from_slice_get, same_Some}
use Rattle.indexmap.proofs.CallerLemmas.{Contains-insert_key}
use Rattle.program.specs.declared.op.Op.{Op}
use Rattle.program.specs.Parts.{Parts, IsProgram}
use Rattle.outcomes.specs.Outcome.{Outcome, IsAllowed, AreOutcomes}
use Rattle.outcomes.specs.Situation.{moved, beginning, ops_of}
use Rattle.situations.specs.Situation.{Situation, place_of, drained_of}
use Rattle.situations.proofs.Ranges.{between_nothing}
use Rattle.situations.specs.Step.{stored_by_op}
use Rattle.situations.specs.Waiting.{between, oldest}
use Rattle.outcomes.specs.Situation.{IsOver, IsEnd}
use Rattle.outcomes.specs.Reachable.{Leads, here, further, AreReachable, outcome_in, ComesTo, EveryOutcomeIsReached}
use Rattle.outcomes.specs.Listed.{same_outcome, with_outcome, IsEnding, AreEndings}

-- the test finds what is the same
pub same : (x y : Outcome) → same_outcome x y ≡ true → x ≡ y
same x y h =
    let both = and_parts _ _ h in
    let reads : x.reads ≡ y.reads = same_text x.reads y.reads (sym both.0) in
    let memory : x.memory ≡ y.memory = same_text x.memory y.memory (sym both.1) in
    λ i. record { reads = reads i; memory = memory i }

-- what was there is
kept : (os : List Outcome) (o k : Outcome) → Contains os k → Contains (with_outcome os o) k
kept os o k there = go (list_any (same_outcome o) os)
  where
    go : (b : Bool) → Contains (cond b os (os ++ o ∷ [])) k
    go true = there
    go false = Contains-append_left os (o ∷ []) k there

-- what holds of all, and of one more
all_more : (P : Outcome → Type 0) (os : List Outcome) (o : Outcome) → All P os → P o → All P (with_outcome os o)
all_more P os o all one = go (list_any (same_outcome o) os)
  where
    go : (b : Bool) → All P (cond b os (os ++ o ∷ []))
    go true = all
    go false = All-push P os o all one

-- the place after an element that is there
there_at : (rows : List Situation) (i : ℕ) (r : Situation) → slice_get rows i ≡ Some r → Contains rows r
there_at rows i r at = (i, slice_get_within rows i r at, get_or_from_slice_get rows i r r at)

module _ (p : List (List Op)) (rows : List Situation) where
  -- one situation more, which is at its end
  pub end_made : (old new : List Outcome) (i : ℕ) (r : Situation) → new ≡ with_outcome old (outcome_in r)
      → slice_get rows i ≡ Some r → IsEnd p r → All (IsEnding p rows) old → All (IsEnding p rows) new
  end_made old new i r is at end all =
      subst (All (IsEnding p rows)) (sym is)
      (all_more (IsEnding p rows) old (outcome_in r) all (r, there_at rows i r at, end, refl))

  -- each of those so far, and this one
  pub end_each : (old new : List Outcome) (i : ℕ) (r : Situation) → new ≡ with_outcome old (outcome_in r)
      → slice_get rows i ≡ Some r
      → ((k : ℕ) (q : Situation) → k < i → slice_get rows k ≡ Some q → IsEnd p q → Contains old (outcome_in q))
      → (k : ℕ) (q : Situation) → k < i + 1 → slice_get rows k ≡ Some q → IsEnd p q → Contains new (outcome_in q)
  end_each old new i r is at before k q low there end =
      subst (λ (l : List Outcome). Contains l (outcome_in q)) (sym is) (elim (cases_lt k i) [
        | inl less ↦ kept old (outcome_in r) (outcome_in q) (before k q less there end)
        | inr last ↦
            let place : k ≡ i = omega (arith, low, last) in
            let one : r ≡ q = same_Some r q (sym at ∙ (ap (slice_get rows) (sym place) ∙ there)) in
            subst (λ (z : Situation). Contains (with_outcome old (outcome_in r)) (outcome_in z)) one
            (Contains-insert_key same_outcome same old (outcome_in r))
      ])

  -- where it is not at its end nothing is to be added
  pub no_end : (old : List Outcome) (i : ℕ) (r : Situation) → ¬ IsEnd p r → slice_get rows i ≡ Some r
      → ((k : ℕ) (q : Situation) → k < i → slice_get rows k ≡ Some q → IsEnd p q → Contains old (outcome_in q))
      → (k : ℕ) (q : Situation) → k < i + 1 → slice_get rows k ≡ Some q → IsEnd p q → Contains old (outcome_in q)
  no_end old i r none at before k q low there end = elim (cases_lt k i) [
    | inl less ↦ before k q less there end
    | inr last ↦
        let place : k ≡ i = omega (arith, low, last) in
        let one : r ≡ q = same_Some r q (sym at ∙ (ap (slice_get rows) (sym place) ∙ there)) in
        absurd (none (subst (IsEnd p) (sym one) end))
  ]

  -- when all were looked at
  pub endings_are : (os : List Outcome) (n : ℕ) → length rows ≤ n → All (IsEnding p rows) os
      → ((k : ℕ) (q : Situation) → k < n → slice_get rows k ≡ Some q → IsEnd p q → Contains os (outcome_in q))
      → AreEndings p rows os
  endings_are os n whole made each = record {
    made = made;
    each = λ r there end. each there.0 r (omega (arith, there.1, whole))
        (slice_get-get_or rows there.0 r there.1 ∙ ap (λ (z : Situation). Some z) there.2) end;
  }

-- a core that is not there has come to its end
pub over_past : (p : List (List Op)) (r : Situation) (c : ℕ) → length p ≤ c → IsOver p r c
over_past p r c past =
    let none : ops_of p c ≡ [] = get_or_past p c [] past in (
      ap (λ (l : List Op). slice_get l (place_of r c)) none,
      ap (λ (l : List Op). oldest stored_by_op (drained_of r c) l)
          (ap (λ (l : List Op). between l (drained_of r c) (place_of r c)) none
          ∙ between_nothing (drained_of r c) (place_of r c)),
    )

-- where all cores that are there have
pub all_over : (p : List (List Op)) (r : Situation) → ((c : ℕ) → c < length p → IsOver p r c) → IsEnd p r
all_over p r each c = elim (cases_lt c (length p)) [
  | inl core ↦ each c core
  | inr past ↦ over_past p r c past
]

-- what moves lead to is among the situations
all_there : (p : Parts) (rows : List Situation) → AreReachable p rows → (r : Situation)
    → Leads p.cores (beginning p) r → Contains rows r
all_there p rows all r here = there_at rows 0 (beginning p) all.order.first
all_there p rows all r (further s t move c led is) =
    let there = all_there p rows all s led in
    all.closed there.0 s there.1 move c r (subst (λ (z : Situation). moved p.cores z move c ≡ Some r) (sym there.2) is)

-- the outcomes at the ends of all situations are those that TSO allows
pub outcomes_are : (p : Parts) (rows : List Situation) (os : List Outcome)
    → ((o : Outcome) → EveryOutcomeIsReached p o) → IsProgram p → AreReachable p rows → AreEndings p.cores rows os
    → AreOutcomes p os
outcomes_are p rows os law lawful all ends = record {
  allowed = λ k d inside.
      let end : IsEnding p.cores rows (get_or os k d) = ends.made k d inside in
      let led : Leads p.cores (beginning p) end.0 =
      subst (Leads p.cores (beginning p)) end.1.2 (all.reached end.1.0 end.0 end.1.1) in
      (law (get_or os k d) lawful).1 (end.0, led, end.2, end.3);
  complete = λ o allowed.
      let comes : ComesTo p o = (law o lawful).0 allowed in
      subst (Contains os) comes.3 (ends.each comes.0 (all_there p rows all comes.0 comes.1) comes.2);
}

-- what stands in a list stands in the list in another order
in_order_too : (os sorted : List Outcome) → IsPermutation os sorted → (o : Outcome) → Contains os o
    → Contains sorted o
in_order_too os sorted moved o there =
    subst (Contains sorted) there.2
    (All-permutation (Contains sorted) sorted os (IsPermutation-sym os sorted moved) (All-contains_itself sorted)
    there.0 o there.1)

-- the outcomes in another order are the outcomes
pub outcomes_sorted : (p : Parts) (os sorted : List Outcome) → IsPermutation os sorted → AreOutcomes p os
    → AreOutcomes p sorted
outcomes_sorted p os sorted moved are = record {
  allowed = All-permutation (IsAllowed p) os sorted moved are.allowed;
  complete = λ o allowed. in_order_too os sorted moved o (are.complete o allowed);
}
