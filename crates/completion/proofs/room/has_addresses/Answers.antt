use Rattle.std.proofs.Common.{◌≡◌, ◌<◌, ◌⊎◌, ◌∙◌, inl, inr, ℕ, true, false, Some, List, length, arith, refl, sym, ap}
use Rattle.std.proofs.Common.{subst}
use Rattle.std.proofs.lemmas.Bool.{cases_eq}
use Rattle.recording.specs.declared.event.Event.{Event}
use Rattle.recording.specs.Event.{read_address, written_address}
use Rattle.recording.specs.EventLaws.{Reads-event, Writes-event}
use Rattle.recording.specs.Execution.{event_at, event_count, Reads, Writes}
use Rattle.values.specs.Refused.{events_alone}
use Rattle.completion.proofs.Alone.{table_size}
use Rattle.completion.proofs.room.has_addresses.Goals as goal

-- what an event uses, by what it does
uses_at : (ev given : Event) (a : ℕ) → given ≡ ev → (read_address ev ≡ Some a) ⊎ (written_address ev ≡ Some a)
    → (read_address given ≡ Some a) ⊎ (written_address given ≡ Some a)
uses_at ev given a is (inl r) = inl (ap read_address is ∙ r)
uses_at ev given a is (inr w) = inr (ap written_address is ∙ w)

pub returns-then-not-is_below : goal.returns-then-not-is_below
returns-then-not-is_below c = (
  λ test. absurd (let clash : false ≡ true = test in cc),
  λ all. absurd (
      let size : length c.init.result.now ≡ length c.args.values.now.initial =
      ap (λ (l : List ℕ). length l) c.init.ensures in
      let below : c.is_below.result ≡ true = c.is_below.ensures.1
      (λ a is. omega (
        arith,
        size,
        all c.loop-e.e a
            (uses_at c.event_at.result (event_at (events_alone c.args.values.now) c.loop-e.e) a (sym c.event_at.ensures) is),
      )) in
      let fails : c.is_below.result ≡ false = c.if-not-is_below.true in cc),
)

pub loop-e-preserved : goal.loop-e-preserved
loop-e-preserved c e a low is = elim (cases_eq e c.loop-e.e) [
  | inr other ↦ c.loop-e.invariant e a (omega (arith, low, other)) is
  | inl one ↦
      let size : length c.init.result.now ≡ length c.args.values.now.initial =
      ap (λ (l : List ℕ). length l) c.init.ensures in
      let here = subst (λ (k : ℕ). Reads (events_alone c.args.values.now) k a ⊎ Writes (events_alone c.args.values.now) k a)
      one is in
      omega (
        arith,
        size,
        c.is_below.ensures.0 c.if-not-is_below.false a
            (uses_at (event_at (events_alone c.args.values.now) c.loop-e.e) c.event_at.result a c.event_at.ensures here),
      )
]

pub returns : goal.returns
returns c = (
  λ test e a is. c.loop-e.invariant e a (omega (
    arith,
    inside e a is,
    table_size c.args.values.now c.args.table.now c.requires.table,
    c.loop-e-test.false,
  )) is,
  λ all. refl,
)
  where
    inside : (e a : ℕ) → Reads (events_alone c.args.values.now) e a ⊎ Writes (events_alone c.args.values.now) e a
        → e < event_count (events_alone c.args.values.now)
    inside e a (inl r) = Reads-event (events_alone c.args.values.now) e a r
    inside e a (inr w) = Writes-event (events_alone c.args.values.now) e a w
