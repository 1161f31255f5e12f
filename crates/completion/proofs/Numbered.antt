-- Events of values by their cores and places, and by their numbers.
use Rattle.std.proofs.Common.{◌≡◌, ◌<◌, ◌+◌, ◌∙◌, ℕ, length, get_or, arith, sym, ap}
use Rattle.recording.specs.declared.event.Event.{Event}
use Rattle.recording.specs.declared.event.Event.TheVariants.{F}
use Rattle.recording.specs.Execution.{core_of, event_at, event_count, placed_from, ProgramOrder}
use Rattle.recording.specs.PlacedLaws.{placed_at, located}
use Rattle.values.specs.Refused.{events_alone}
use Rattle.values.specs.Values.{Values}
use Rattle.completion.specs.Search.{event_of}
use Rattle.completion.specs.Situation.{events_of, number_of}

module _ (v : Values) where
  placed : (c j : ℕ) → j < length (events_of v.cores c)
      → (get_or (placed_from 0 v.cores) (number_of v.cores c j) (0, F) ≡ (0 + c, event_of v.cores c j))
      × (number_of v.cores c j < length (placed_from 0 v.cores))
  placed c j inside = placed_at 0 v.cores c j F inside

  -- what stands at a place of a core
  pub event_here : (c j : ℕ) → j < length (events_of v.cores c)
      → event_at (events_alone v) (number_of v.cores c j) ≡ event_of v.cores c j
  unfolding event_at
  event_here c j inside = ap (λ (z : ℕ × Event). z.1) (placed c j inside).0

  pub core_here : (c j : ℕ) → j < length (events_of v.cores c)
      → core_of (events_alone v) (number_of v.cores c j) ≡ c
  unfolding core_of
  core_here c j inside = ap (λ (z : ℕ × Event). z.0) (placed c j inside).0 ∙ omega arith

  pub inside_here : (c j : ℕ) → j < length (events_of v.cores c)
      → number_of v.cores c j < event_count (events_alone v)
  unfolding event_count
  inside_here c j inside = (placed c j inside).1

  -- each event stands somewhere
  pub found : (e : ℕ) → e < event_count (events_alone v)
      → (c : ℕ) × (j : ℕ) × (j < length (events_of v.cores c)) × (number_of v.cores c j ≡ e)
  unfolding event_count
  found e h = let at = located 0 v.cores e h in (at.0, at.1, at.3, at.4)

  -- at one place
  pub one_place : (d i c j : ℕ) → i < length (events_of v.cores d) → j < length (events_of v.cores c)
      → number_of v.cores d i ≡ number_of v.cores c j → (d ≡ c) × (i ≡ j)
  one_place d i c j there inside same =
      let core : d ≡ c = sym (core_here d i there) ∙ (ap (core_of (events_alone v)) same ∙ core_here c j inside) in (
        core,
        let first : number_of v.cores d 0 ≡ number_of v.cores c 0 = ap (λ (k : ℕ). number_of v.cores k 0) core in
            omega (arith, same, first),
      )

  -- what is before it in program order stands before it on its core
  pub earlier : (f e c j : ℕ) → j < length (events_of v.cores c) → number_of v.cores c j ≡ e
      → ProgramOrder (events_alone v) f e
      → (i : ℕ) × (i < j) × (i < length (events_of v.cores c)) × (number_of v.cores c i ≡ f)
  earlier f e c j inside at order = go (found f (omega (arith, order.0, order.1)))
    where
      go : (d : ℕ) × (i : ℕ) × (i < length (events_of v.cores d)) × (number_of v.cores d i ≡ f)
          → (i : ℕ) × (i < j) × (i < length (events_of v.cores c)) × (number_of v.cores c i ≡ f)
      go (d, i, there, here) =
          let core : d ≡ c = sym (core_here d i there) ∙ (ap (core_of (events_alone v)) here
          ∙ (order.2 ∙ (ap (core_of (events_alone v)) (sym at) ∙ core_here c j inside))) in
          let same : number_of v.cores d i ≡ number_of v.cores c i = ap (λ (k : ℕ). number_of v.cores k i) core in (
            i,
            omega (arith, order.0, here, same, at),
            omega (arith, there, ap (λ (k : ℕ). length (events_of v.cores k)) core),
            sym same ∙ here,
          )

  -- and the other way round
  pub order_here : (c i j : ℕ) → i < j → j < length (events_of v.cores c)
      → ProgramOrder (events_alone v) (number_of v.cores c i) (number_of v.cores c j)
  order_here c i j less inside = (
    omega (arith, less),
    inside_here c j inside,
    core_here c i (omega (arith, less, inside)) ∙ sym (core_here c j inside),
  )
