-- What a program fixes of its events, and a state as lists of event numbers.
use Rattle.std.proofs.Common.{◌≡◌, ◌<◌, ◌≤◌, ◌+◌, ℕ, None, List, [], map, length, get_or, arith, ap, ◌∙◌}
use Rattle.std.specs.List.{sum_by}
use Rattle.std.proofs.lemmas.List.Sums.{sum_by_more, sum_by-take-le, sum-map}
use Rattle.std.proofs.lemmas.List.{get_or-map, length-map}
use Rattle.recording.specs.Execution.{placed_from}
use Rattle.recording.specs.declared.event.Event.{Event}
use Rattle.recording.specs.Event.{written_address}
use Rattle.program.specs.declared.op.Op.{Op}
use Rattle.machine.specs.State.{State, place_of, buffer_of, first_event}
use Rattle.program_events.specs.ProgramOf.{event_of}
pub use Rattle.program_events.specs.Operations.{placed_op, is_st, is_ld, op_reads}
use Rattle.machine.proofs.Seen.{Static, Snapshot}

-- what event e did, as far as s goes
abbrev pub done_by : List (List Op) → State → ℕ → Event
done_by p s e = event_of (placed_op p e).1 (get_or s.reads e (0, None))

-- what is known of the events, of which what they write is taken from what they did
abbrev pub static_of : List (List Op) → State → Static
static_of p s = record {
  count = length (placed_from 0 p);
  core = λ e. (placed_op p e).0;
  writes = λ e. written_address (done_by p s e);
  reads = λ e. op_reads (placed_op p e).1;
  store = λ e. is_st (placed_op p e).1;
  load = λ e. is_ld (placed_op p e).1;
}

-- a state as lists of event numbers
abbrev pub snapshot_of : List (List Op) → State → Snapshot
snapshot_of p s = record {
  performed = s.performed;
  buffer = λ c. map (λ x. x.event) (buffer_of s c);
  next = λ c. first_event p c + place_of s c;
  source = λ e. (get_or s.reads e (0, None)).1;
}

-- one core more, whose events come after those before it
pub first_more : (p : List (List Op)) (c : ℕ) → c < length p
    → first_event p (c + 1) ≡ first_event p c + length (get_or p c [])
first_more p c h =
    sum_by_more (λ (n : ℕ). n) (map (λ (ops : List Op). length ops) p) c 0
    (omega (arith, h, length-map p (λ (ops : List Op). length ops)))
    ∙ ap (λ (n : ℕ). first_event p c + n) (get_or-map (λ (ops : List Op). length ops) p c [] 0 h)

-- all events of a core are among those of the program
pub first_within : (p : List (List Op)) (c : ℕ) → c < length p
    → first_event p c + length (get_or p c []) ≤ sum_by (λ ops. length ops) p
first_within p c h = omega (
  arith,
  first_more p c h,
  sum_by-take-le (λ (n : ℕ). n) (map (λ (ops : List Op). length ops) p) (c + 1),
  sum-map (λ (ops : List Op). length ops) p,
)
