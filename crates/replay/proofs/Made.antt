-- What a machine records of the program of an execution.
use Rattle.std.proofs.Common.{◌≡◌, ◌<◌, ◌+◌, inl, inr, ℕ, Option, None, List, [], ◌∷◌, map, length, get_or}
use Rattle.std.proofs.Common.{arith, refl, ap, subst, ◌∙◌}
use Rattle.std.proofs.lemmas.List.{length-map, get_or_past}
use Rattle.std.proofs.lemmas.Bool.{cases_lt}
use Rattle.program.specs.declared.op.Op.{Op}
use Rattle.recording.specs.declared.event.Event.{Event}
use Rattle.recording.specs.Execution.{Execution, placed_from, event_count, event_at, core_of}
use Rattle.machine.specs.State.{State, cores_from, recorded}
use Rattle.program_events.specs.ProgramOf.{event_of}
use Rattle.program_events.specs.NamedProgram.{op_of, program_of}
use Rattle.program_events.specs.Operations.{placed_op}
use Rattle.program_events.proofs.MadeAgain.{placed_is, count_same}
use Rattle.machine.proofs.PlaceLemmas.{event_after, event_before}
use Rattle.machine.specs.RecordedLaws.{events_length, event_is, core_is, count_is}

-- an event's core is one of the program's
pub core_there : (x : Execution) (e : ℕ) → e < event_count x → core_of x e < length (program_of x)
core_there x e event =
    let p : List (List Op) = program_of x in
    let here : e < length (placed_from 0 p) = omega (arith, event, count_same x) in
    let c : ℕ = (placed_op p e).0 in
    let core : c < length p = elim (cases_lt c (length p)) [
      | inl inside ↦ inside
      | inr past ↦
          absurd (omega (
            arith,
            event_after p e here,
            event_before p e here,
            ap (λ (l : List Op). length l) (get_or_past p c [] past),
          ))
    ] in
    subst (λ (k : ℕ). k < length p) (ap (λ (z : ℕ × Op). z.0) (placed_is x e)) core

-- so does each core
cores_length : (e : ℕ) (p : List (List Op)) (reads : List (ℕ × Option ℕ))
    → map (λ es. length es) (cores_from e p reads) ≡ map (λ ops. length ops) p
cores_length e [] reads = refl
cores_length e (ops ∷ p) reads =
    ap (λ (k : ℕ). k ∷ map (λ es. length es) (cores_from (e + length ops) p reads))
    (events_length e ops reads)
    ∙ ap (λ (l : List ℕ). length ops ∷ l) (cores_length (e + length ops) p reads)

-- the lengths of the cores of a program
program_lengths : (cores : List (List Event))
    → map (λ ops. length ops) (map (λ es. map op_of es) cores) ≡ map (λ es. length es) cores
program_lengths [] = refl
program_lengths (es ∷ rest) =
    ap (λ (k : ℕ). k ∷ map (λ ops. length ops) (map (λ fs. map op_of fs) rest)) (length-map es op_of)
    ∙ ap (λ (l : List ℕ). length es ∷ l) (program_lengths rest)

-- y is an execution of the program of x, and both have the same number of write lists and the same initial values
pub record IsMade (x y : Execution) : Type 0 where
  pub event : (e : ℕ) → (d : ℕ × Option ℕ) × (event_at y e ≡ event_of (op_of (event_at x e)) d)
  pub core : (e : ℕ) → core_of y e ≡ core_of x e
  pub count : event_count y ≡ event_count x
  pub lengths : map (λ es. length es) y.cores ≡ map (λ es. length es) x.cores
  pub lists : length y.write_lists ≡ length x.write_lists
  pub initial : y.initial ≡ x.initial

-- the program of x records executions of it
pub recorded_made : (x : Execution) (s : State) → length s.write_lists ≡ length x.write_lists
    → s.initial ≡ x.initial → IsMade x (recorded (program_of x) s)
recorded_made x s lists initial = record {
  event = λ e. (
    get_or s.reads e (0, None),
    event_is (program_of x) s e
        ∙ ap (λ (z : ℕ × Op). event_of z.1 (get_or s.reads e (0, None))) (placed_is x e),
  );
  core = λ e. core_is (program_of x) s e ∙ ap (λ (z : ℕ × Op). z.0) (placed_is x e);
  count = count_is (program_of x) s ∙ count_same x;
  lengths = cores_length 0 (program_of x) s.reads ∙ program_lengths x.cores;
  lists = lists;
  initial = initial;
}
