-- The rules that values may break, one event at a time.
use Rattle.std.proofs.Common.{◌≡◌, ◌<◌, ◌==◌, ◌⊎◌, ◌↔◌, ◌∙◌, inl, inr, ℕ, zero, suc, false, Option, Some, None, nat_eq}
use Rattle.std.proofs.Common.{IsTrue, arith, sym}
use Rattle.std.proofs.Common.{ap, subst}
use Rattle.std.proofs.lemmas.Bool.{eqb-true, eq-eqb}
use Rattle.recording.specs.declared.event.Event.{Event}
use Rattle.recording.specs.Event.{read_address, written_address, value_read, value_written}
use Rattle.recording.specs.Execution.{Execution, event_at, initial_value, Reads, Writes}
use Rattle.recording.specs.Tso.{IsValueOf}
use Rattle.values.specs.Values.{Values, known_source}
use Rattle.values.specs.Refused.{events_alone, HasKnownValue}

-- event e of an execution, with the address that it reads and the one that it writes
pub record IsSeen (x : Execution) (e : ℕ) (ev : Event) (o p : Option ℕ) : Type 0 where
  pub event : ev ≡ event_at x e
  pub read : o ≡ read_address ev
  pub written : p ≡ written_address ev

-- where both are below a bound, so is each that is used
pub both_below : (x : Execution) (e n m : ℕ) (ev : Event) (o p : Option ℕ) → IsSeen x e ev o p → n ≡ m
    → ((a : ℕ) → o ≡ Some a → a < n) → ((a : ℕ) → p ≡ Some a → a < n)
    → (a : ℕ) → Reads x e a ⊎ Writes x e a → a < m
both_below x e n m ev o p is same first second a uses = elim uses [
  | inl reads ↦ omega (arith, same, first a (is.read ∙ (ap read_address is.event ∙ reads)))
  | inr writes ↦ omega (arith, same, second a (is.written ∙ (ap written_address is.event ∙ writes)))
]

-- and the other way round
pub each_below : (x : Execution) (e n m : ℕ) (ev : Event) (o p : Option ℕ) → IsSeen x e ev o p → n ≡ m
    → ((a : ℕ) → Reads x e a ⊎ Writes x e a → a < m)
    → ((a : ℕ) → o ≡ Some a → a < n) × ((a : ℕ) → p ≡ Some a → a < n)
each_below x e n m ev o p is same all = (
  λ a reads. omega (arith, same, all a (inl (sym (ap read_address is.event) ∙ (sym is.read ∙ reads)))),
  λ a writes. omega (arith, same, all a (inr (sym (ap written_address is.event) ∙ (sym is.written ∙ writes)))),
)

-- a value against that of a known write
pub value_of_write : (v : Values) (e a w wrote read : ℕ) → Reads (events_alone v) e a
    → known_source v e ≡ Some (Some w) → wrote ≡ value_written (event_at (events_alone v) w)
    → read ≡ value_read (event_at (events_alone v) e) → IsTrue (nat_eq wrote read) ↔ HasKnownValue v e
value_of_write v e a w wrote read reads from is was = (
  λ t b s others known.
      let one : s ≡ Some w = cc in
      subst (λ (o : Option ℕ). IsValueOf (events_alone v) b o (value_read (event_at (events_alone v) e))) (sym one)
      (sym is ∙ (eqb-true wrote read t ∙ was)),
  λ all. eq-eqb wrote read (is ∙ (all a (Some w) reads from ∙ sym was)),
)

-- a value against the initial one
pub value_of_none : (v : Values) (e a begins read : ℕ) → Reads (events_alone v) e a
    → known_source v e ≡ Some None → begins ≡ initial_value (events_alone v) a
    → read ≡ value_read (event_at (events_alone v) e) → IsTrue (nat_eq read begins) ↔ HasKnownValue v e
value_of_none v e a begins read reads from is was = (
  λ t b s others known.
      let one : s ≡ None = cc in
      let same : a ≡ b = cc in
      subst (λ (o : Option ℕ). IsValueOf (events_alone v) b o (value_read (event_at (events_alone v) e))) (sym one)
      (sym was ∙ (eqb-true read begins t ∙ (is ∙ ap (initial_value (events_alone v)) same))),
  λ all. eq-eqb read begins (was ∙ (all a None reads from ∙ sym is)),
)

-- a list that is not empty has something
pub not_empty : (n : ℕ) → (n == 0) ≡ false → 0 < n
not_empty zero h = absurd cc
not_empty (suc n) h = omega arith
