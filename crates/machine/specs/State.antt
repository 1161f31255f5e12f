-- What a machine of store buffers and caches has reached, and the recording of it.
use Rattle.std.specs.Prelude.{◌+◌, ◌≡◌, ℕ, Option, None, List, [], ◌∷◌, map, length, slice_index, slice_index_or}
use Rattle.std.specs.Prelude.{sum, take, replicate}
use Rattle.program.specs.declared.op.Op.{Op}
use Rattle.program.specs.Parts.{op_count}
use Rattle.recording.specs.declared.event.Event.{Event}
use Rattle.recording.specs.Execution.{Execution}
use Rattle.program_events.specs.ProgramOf.{event_of}
use Rattle.write_buffer.specs.declared.entry.Entry.{Entry}
use Rattle.moesi.specs.State as moesi

-- what was reached
pub record State : Type 0 where
  -- for each core, how many of its operations were executed
  pub places : List ℕ
  -- for each core its waiting stores, the oldest first
  pub buffers : List (List Entry)
  -- each core's line of each address, and memory
  pub caches : moesi.CacheState
  -- for each address the events that wrote it, first to last
  pub write_lists : List (List ℕ)
  -- for each event the value that it read, and its source
  pub reads : List (ℕ × Option ℕ)
  -- the performed events, first to last
  pub performed : List ℕ
  -- for each address the value that it began with, which no step changes
  pub initial : List ℕ

-- how many operations core c has executed
abbrev pub place_of : State → ℕ → ℕ
place_of s c = slice_index s.places c

-- the waiting stores of core c
abbrev pub buffer_of : State → ℕ → List Entry
buffer_of s c = slice_index_or s.buffers c []

-- the value of an address, and the event that wrote it
abbrev pub current_copy : State → ℕ → ℕ × Option ℕ
current_copy s a = moesi.current s.caches a

-- the data of core c's line of address a
abbrev pub line_copy : State → ℕ → ℕ → ℕ × Option ℕ
line_copy s c a = moesi.copy_of s.caches c a

-- the number of the first event of core c
abbrev pub first_event : List (List Op) → ℕ → ℕ
first_event p c = sum (take c (map (λ ops. length ops) p))

-- the events of one core, of which the first has number e
abbrev pub events_from : ℕ → List Op → List (ℕ × Option ℕ) → List Event
events_from e [] reads = []
events_from e (op ∷ ops) reads =
    event_of op (slice_index_or reads e (0, None)) ∷ events_from (e + 1) ops reads

-- the events of all cores, of which the first has number e
abbrev pub cores_from : ℕ → List (List Op) → List (ℕ × Option ℕ) → List (List Event)
cores_from e [] reads = []
cores_from e (ops ∷ rest) reads = events_from e ops reads ∷ cores_from (e + length ops) rest reads

-- the recording of a state; what was not read yet is 0 with no source
abbrev pub recorded : List (List Op) → State → Execution
recorded p s = record {
  cores = cores_from 0 p s.reads;
  write_lists = s.write_lists;
  initial = s.initial;
}

-- the state in which a program begins whose addresses have these initial values
abbrev pub opening : List (List Op) → List ℕ → State
opening p init = record {
  places = replicate (length p) 0;
  buffers = replicate (length p) [];
  caches = moesi.opening_with (length p) init;
  write_lists = replicate (length init) [];
  reads = replicate (op_count p) (0, None);
  performed = [];
  initial = init;
}

-- core c has executed all its operations, and no store of it waits
abbrev pub IsDone : List (List Op) → State → ℕ → Type 0
IsDone p s c = (place_of s c ≡ length (slice_index_or p c [])) × (buffer_of s c ≡ [])

-- every operation was executed, and no store waits
abbrev pub IsComplete : List (List Op) → State → Type 0
IsComplete p s = (c : ℕ) → IsDone p s c
