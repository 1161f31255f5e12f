-- The recording of a state is one of its program.
use Rattle.std.proofs.Common.{◌≡◌, ◌<◌, ◌+◌, ◌==◌, ℕ, zero, suc, Option, None, List, [], ◌∷◌, length, get_or, arith}
use Rattle.std.proofs.Common.{refl, sym}
use Rattle.std.proofs.lemmas.Bool.{cond_both, cond-true, cond-false}
use Rattle.program.specs.declared.op.Op.{Op}
use Rattle.program.specs.declared.op.Op.TheVariants.{Fence, Cas}
use Rattle.program.specs.Parts.{Parts}
use Rattle.recording.specs.declared.event.Event.TheVariants.{R, C}
use Rattle.machine.specs.State.{State, cores_from, recorded}
use Rattle.program_events.specs.ProgramOf.{event_of, Makes, AreOpsOf, IsProgramOf}
use Rattle.machine.specs.RecordedLaws.{events_length, events_at, cores_length}

-- an operation makes the event that it made
makes_own : (op : Op) (d : ℕ × Option ℕ) → Makes op (event_of op d)
makes_own (Cas a e v) d =
    cond_both (d.0 == e) (R a d.0 d.1 v) (C a d.0 d.1) (Makes (Cas a e v))
    (cond-true (d.0 == e) (R a d.0 d.1 v) (C a d.0 d.1)) (cond-false (d.0 == e) (R a d.0 d.1 v) (C a d.0 d.1))
makes_own op d = refl

-- the operations of each core make its events in the recording of a state
cores_made : (e : ℕ) (p : List (List Op)) (reads : List (ℕ × Option ℕ)) (c : ℕ) → c < length p
    → AreOpsOf (get_or p c []) (get_or (cores_from e p reads) c [])
cores_made e [] reads c h = absurd (omega arith)
cores_made e (ops ∷ p) reads zero h = record {
  one_each = sym (events_length e ops reads);
  each = λ i below. rw (events_at e ops reads i) (makes_own (get_or ops i Fence) (get_or reads (e + i) (0, None)));
}
cores_made e (ops ∷ p) reads (suc c) h = cores_made (e + length ops) p reads c (omega (arith, h))

-- so the recording of a state is one of the program
pub recorded_is_of : (p : Parts) (s : State) → p.init ≡ s.initial → IsProgramOf p (recorded p.cores s)
recorded_is_of p s values = record {
  cores = sym (cores_length 0 p.cores s.reads);
  ops = cores_made 0 p.cores s.reads;
  values = values;
}
