-- What one run more does to the tallies.
use Rattle.std.proofs.Common.{◌≡◌, ◌+◌, ◌++◌, ◌∷◌, ◌||◌, inl, inr, Bool, true, false, List, [], Option, Some, None}
use Rattle.std.proofs.Common.{length, arith, refl, ◌∙◌}
use Rattle.std.specs.Prelude.{count_by}
use Rattle.std.specs.List.{list_any}
use Rattle.std.proofs.lemmas.Bool.{cases_Bool}
use Rattle.outcomes.specs.Outcome.{Outcome}
use Rattle.outcomes.specs.Listed.{same_outcome}
use Rattle.histograms.specs.declared.seen.Seen.{Seen}
use Rattle.histograms.specs.Histogram.{comes_to, violates_by, tally_of, with_run}
use Rattle.histograms.proofs.Counts.{count_more, count_none, any_more, first_stays, first_comes, none_of_fewer}

-- what does not come to an outcome does not violate by it
not_by : (o : Outcome) (s : Option Seen) → comes_to o s ≡ false → violates_by o s ≡ false
not_by o None miss = refl
not_by o (Some s) miss = rw miss refl

or_false : (b : Bool) → (b || false) ≡ b
or_false true = refl
or_false false = refl

-- a run that does not come to an outcome leaves its tally
pub tally_stays : (runs : List (Option Seen)) (s : Option Seen) (o : Outcome) → comes_to o s ≡ false
    → tally_of (runs ++ s ∷ []) o ≡ tally_of runs o
tally_stays runs s o miss = elim (cases_Bool (list_any (comes_to o) runs)) [
  | inl some ↦
      let any : list_any (comes_to o) (runs ++ s ∷ []) ≡ true = any_more (comes_to o) runs s ∙ (rw some refl) in
      let count : count_by (comes_to o) (runs ++ s ∷ []) ≡ count_by (comes_to o) runs =
      count_more (comes_to o) runs s ∙ (rw miss (omega arith)) in
      let violation : list_any (violates_by o) (runs ++ s ∷ []) ≡ list_any (violates_by o) runs =
      any_more (violates_by o) runs s ∙ (rw (not_by o s miss) (or_false (list_any (violates_by o) runs))) in
      rw (any, some, count, violation, first_stays (comes_to o) runs s some) refl
  | inr none ↦
      let any : list_any (comes_to o) (runs ++ s ∷ []) ≡ false =
      any_more (comes_to o) runs s ∙ (rw (none, miss) refl) in
      rw (any, none) refl
]

-- one that comes to it is added
pub tally_grows : (runs : List (Option Seen)) (s : Seen) (o : Outcome) → same_outcome o s.outcome ≡ true
    → tally_of (runs ++ Some s ∷ []) o ≡ Some (with_run (tally_of runs o) (length runs) s.violation)
tally_grows runs s o hit = elim (cases_Bool (list_any (comes_to o) runs)) [
  | inl some ↦
      let any : list_any (comes_to o) (runs ++ Some s ∷ []) ≡ true = any_more (comes_to o) runs (Some s) ∙ (rw some refl) in
      let count : count_by (comes_to o) (runs ++ Some s ∷ []) ≡ count_by (comes_to o) runs + 1 =
      count_more (comes_to o) runs (Some s) ∙ (rw hit refl) in
      let violation : list_any (violates_by o) (runs ++ Some s ∷ []) ≡ (list_any (violates_by o) runs || s.violation) =
      any_more (violates_by o) runs (Some s) ∙ (rw hit refl) in
      rw (any, some, count, violation, first_stays (comes_to o) runs (Some s) some) refl
  | inr none ↦
      let any : list_any (comes_to o) (runs ++ Some s ∷ []) ≡ true =
      any_more (comes_to o) runs (Some s) ∙ (rw (none, hit) refl) in
      let count : count_by (comes_to o) (runs ++ Some s ∷ []) ≡ 1 =
      count_more (comes_to o) runs (Some s) ∙ (rw (hit, count_none (comes_to o) runs none) refl) in
      let no_violation : list_any (violates_by o) runs ≡ false = none_of_fewer (violates_by o) (comes_to o) (not_by o) runs none in
      let violation : list_any (violates_by o) (runs ++ Some s ∷ []) ≡ s.violation =
      any_more (violates_by o) runs (Some s) ∙ (rw (hit, no_violation) refl) in
      rw (any, none, count, violation, first_comes (comes_to o) runs (Some s) none hit) refl
]
