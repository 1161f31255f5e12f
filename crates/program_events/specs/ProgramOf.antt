-- The event that an operation makes, and when a recording is one of a program.
use Rattle.std.specs.Prelude.{◌≡◌, ◌<◌, ◌+◌, ◌%◌, ◌^◌, ◌==◌, ℕ, if◌then◌else◌, Option, List, [], length, slice_index_or}
use Rattle.program.specs.declared.op.Op.{Op}
use Rattle.program.specs.declared.op.Op.TheVariants.{St, Ld, Fence, Swap, Add, Cas}
use Rattle.program.specs.Parts.{Parts}
use Rattle.recording.specs.declared.event.Event.{Event}
use Rattle.recording.specs.declared.event.Event.TheVariants.{L, S, R, C, F}
use Rattle.recording.specs.Event.{value_read, source}
use Rattle.recording.specs.Execution.{Execution}

-- the event that an operation makes, from the value that it read and its source
abbrev pub event_of : Op → ℕ × Option ℕ → Event
event_of (St a v) d = S a v
event_of (Ld a) d = L a d.0 d.1
event_of Fence d = F
event_of (Swap a v) d = R a d.0 d.1 v
event_of (Add a v) d = R a d.0 d.1 ((d.0 + v) % 2 ^ 32)
event_of (Cas a e v) d = if d.0 == e then R a d.0 d.1 v else C a d.0 d.1

-- the operation makes the event, from the value that the event read and its source
abbrev pub Makes : Op → Event → Type 0
Makes op e = event_of op (value_read e, source e) ≡ e

-- an operation for each event, which makes it
pub record AreOpsOf (ops : List Op) (events : List Event) : Type 0 where
  pub one_each : length ops ≡ length events
  pub each : (i : ℕ) → i < length ops → Makes (slice_index_or ops i Fence) (slice_index_or events i F)

-- the operations of each core make its events, and the addresses begin with the program's values
pub record IsProgramOf (p : Parts) (x : Execution) : Type 0 where
  pub cores : length p.cores ≡ length x.cores
  pub ops : (c : ℕ) → c < length p.cores
      → AreOpsOf (slice_index_or p.cores c []) (slice_index_or x.cores c [])
  pub values : p.init ≡ x.initial
