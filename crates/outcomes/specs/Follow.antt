-- A state of the machine, and a situation that says the same.
use Rattle.std.specs.Prelude.{◌≡◌, ◌<◌, ◌≤◌, ◌+◌, ℕ, suc, None, List, [], ◌∷◌, ◌++◌, length, slice_index}
use Rattle.std.specs.Prelude.{slice_index_or}
use Rattle.program.specs.declared.op.Op.{Op}
use Rattle.program.specs.declared.op.Op.TheVariants.{St}
use Rattle.program.specs.Parts.{Parts}
use Rattle.recording.specs.Event.{value_read}
use Rattle.recording.specs.Execution.{placed_from}
use Rattle.write_buffer.specs.declared.entry.Entry.{Entry}
use Rattle.program.specs.declared.fault.Fault.TheVariants as faults
use Rattle.program_events.specs.Operations.{placed_op}
use Rattle.machine.specs.State.{State, place_of, buffer_of, current_copy, first_event, opening}
use Rattle.program_events.specs.ProgramOf.{event_of}
use Rattle.machine.specs.Step.{run}
use Rattle.replay.specs.Steps.{Replaying}
use Rattle.outcomes.specs.Situation.{past_stores, ops_of}
use Rattle.situations.specs.Situation.{Situation}
use Rattle.situations.specs.Waiting.{between}
use Rattle.situations.specs.Situation as row

-- the entry of an operation with this number, if it is a plain store
abbrev pub entry_of : ℕ → Op → List Entry
entry_of e (St a v) = record { addr = a; value = v; event = e } ∷ []
entry_of e op = []

-- the entries of the plain stores of a list, of which the first operation has number e
abbrev pub entries : ℕ → List Op → List Entry
entries e [] = []
entries e (op ∷ ops) = entry_of e op ++ entries (suc e) ops

-- a core that has executed k of its operations, of which the first has the number first, and whose buffer is b, is
-- where a situation has it
pub record IsCoreAt (ops : List Op) (first k : ℕ) (b : List Entry) (to low : ℕ) : Type 0 where
  pub place : to ≡ past_stores ops k
  pub within : k ≤ length ops
  pub drained : low ≤ k
  pub buffer : b ≡ entries (first + low) (between ops low k)

-- a situation says the same as a state of a program with n addresses
pub record Follows (p : List (List Op)) (n : ℕ) (s : State) (r : Situation) : Type 0 where
  pub cores : (c : ℕ) → IsCoreAt (ops_of p c) (first_event p c) (place_of s c) (buffer_of s c) (row.place_of r c)
      (row.drained_of r c)
  pub memory : (a : ℕ) → a < n → slice_index r.memory a ≡ (current_copy s a).0
  pub reads : (e : ℕ) → slice_index r.notes e
      ≡ value_read (event_of (placed_op p e).1 (slice_index_or s.reads e (0, None)))
  pub blocks : length s.caches.blocks ≡ n
  pub place_size : length r.places ≡ length p
  pub drained_size : length r.drained ≡ length p
  pub memory_size : length r.memory ≡ n
  pub reads_size : length r.notes ≡ length (placed_from 0 p)

-- a machine of the program without fault, whose buffers have room for all operations of a core, has come to the
-- situation by the steps that it has taken
pub record HasComeTo (p : Parts) (r : Situation) (x : Replaying) : Type 0 where
  pub program : x.machine.program ≡ p
  pub fault : x.machine.fault ≡ faults.None
  pub room : (c : ℕ) → length (ops_of p.cores c) ≤ x.machine.capacity
  pub reached : run p.cores x.machine.capacity faults.None (opening p.cores p.init) x.steps ≡ x.machine.state
  pub follows : Follows p.cores (length p.init) x.machine.state r
