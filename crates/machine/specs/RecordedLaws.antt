-- Laws of the recording of a state: its events are those of the program's operations.
use Rattle.std.proofs.Common.{◌≡◌, ◌+◌, ◌-◌, inl, inr, ℕ, zero, suc, Option, None, List, [], ◌∷◌}
use Rattle.std.proofs.Common.{map, length, get_or, arith, refl, ap, ◌∙◌}
use Rattle.std.specs.List.{sum}
use Rattle.std.proofs.lemmas.List.Sums.{sum-map}
use Rattle.std.proofs.lemmas.Bool.{cases_lt}
use Rattle.recording.specs.declared.event.Event.{Event}
use Rattle.recording.specs.declared.event.Event.TheVariants.{F}
use Rattle.recording.specs.Execution.{placed_from, event_count, event_at, core_of}
use Rattle.recording.specs.PlacedLaws.{placed_here, placed_after, placed_total}
use Rattle.program.specs.declared.op.Op.{Op}
use Rattle.program.specs.declared.op.Op.TheVariants.{Fence}
use Rattle.machine.specs.State.{State, events_from, cores_from, recorded}
use Rattle.program_events.specs.ProgramOf.{event_of}
use Rattle.program_events.specs.Operations.{placed_op}

-- the events of the recording are those of the program's operations
pub events_length : (e : ℕ) (ops : List Op) (reads : List (ℕ × Option ℕ))
    → length (events_from e ops reads) ≡ length ops
events_length e [] reads = refl
events_length e (op ∷ ops) reads = ap suc (events_length (e + 1) ops reads)

-- event i of a core is that of its operation i
pub events_at : (e : ℕ) (ops : List Op) (reads : List (ℕ × Option ℕ)) (i : ℕ)
    → get_or (events_from e ops reads) i F ≡ event_of (get_or ops i Fence) (get_or reads (e + i) (0, None))
events_at e [] reads i = refl
events_at e (op ∷ ops) reads zero = ap (λ (n : ℕ). event_of op (get_or reads n (0, None))) (omega arith)
events_at e (op ∷ ops) reads (suc i) =
    events_at (e + 1) ops reads i ∙ ap (λ (n : ℕ). event_of (get_or ops i Fence) (get_or reads n (0, None)))
    (omega arith)

-- each core of a recording has as many events as operations
lengths : (e : ℕ) (p : List (List Op)) (reads : List (ℕ × Option ℕ))
    → map (λ (es : List Event). length es) (cores_from e p reads) ≡ map (λ (ops : List Op). length ops) p
lengths e [] reads = refl
lengths e (ops ∷ p) reads = rw (events_length e ops reads, lengths (e + length ops) p reads) refl

-- it has the cores of its program
pub cores_length : (e : ℕ) (p : List (List Op)) (reads : List (ℕ × Option ℕ))
    → length (cores_from e p reads) ≡ length p
cores_length e [] reads = refl
cores_length e (ops ∷ p) reads = ap suc (cores_length (e + length ops) p reads)

-- event i is that of the operation i
recorded_at : (k e : ℕ) (p : List (List Op)) (reads : List (ℕ × Option ℕ)) (i : ℕ)
    → get_or (placed_from k (cores_from e p reads)) i (0, F)
    ≡ (
      (get_or (placed_from k p) i (0, Fence)).0,
      event_of (get_or (placed_from k p) i (0, Fence)).1 (get_or reads (e + i) (0, None)),
    )
recorded_at k e [] reads i = refl
recorded_at k e (ops ∷ p) reads i =
    let es : List Event = events_from e ops reads in
    let rest : List (List Event) = cores_from (e + length ops) p reads in
    let same : length es ≡ length ops = events_length e ops reads in
    elim (cases_lt i (length ops)) [
      | inl here ↦ rw (placed_here k ops p i (0, Fence) here, placed_here k es rest i (0, F) (rw same here))
          (ap (λ (x : Event). (k, x)) (events_at e ops reads i))
      | inr after ↦
          let at : e + i ≡ e + length ops + (i - length ops) = omega arith in
          rw (placed_after k ops p i (0, Fence) after, placed_after k es rest i (0, F) (rw same after), same, at)
          (recorded_at (k + 1) (e + length ops) p reads (i - length ops))
    ]

-- what event e did, in the recording of a state
pub event_is : (p : List (List Op)) (s : State) (e : ℕ)
    → event_at (recorded p s) e ≡ event_of (placed_op p e).1 (get_or s.reads e (0, None))
unfolding event_at
event_is p s e =
    ap (λ (z : ℕ × Event). z.1) (recorded_at 0 0 p s.reads e)
    ∙ ap (λ (n : ℕ). event_of (placed_op p e).1 (get_or s.reads n (0, None))) (omega arith)

-- the core of event e, in the recording
pub core_is : (p : List (List Op)) (s : State) (e : ℕ) → core_of (recorded p s) e ≡ (placed_op p e).0
unfolding core_of
core_is p s e = ap (λ (z : ℕ × Event). z.0) (recorded_at 0 0 p s.reads e)

-- how many events the recording has
pub count_is : (p : List (List Op)) (s : State) → event_count (recorded p s) ≡ length (placed_from 0 p)
unfolding event_count
count_is p s = omega (
  arith,
  placed_total 0 (cores_from 0 p s.reads),
  placed_total 0 p,
  sum-map (λ (es : List Event). length es) (cores_from 0 p s.reads),
  sum-map (λ (ops : List Op). length ops) p,
  ap (λ (l : List ℕ). sum l) (lengths 0 p s.reads),
)
