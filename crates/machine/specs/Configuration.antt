-- What a machine holds, how its parts fit together, and that it was reached by steps.
use Rattle.std.specs.Prelude.{◌≡◌, ◌+◌, ◌<◌, ◌≤◌, ℕ, Option, Result, List, [], length, map, sum, sum_by}
use Rattle.std.specs.Prelude.{slice_index, slice_index_or, All, Ok, Err, OnOk, OnErr, IfErr}
use Rattle.common.specs.declared.limits.TheConstants.{MAX_EVENTS}
use Rattle.program.specs.declared.op.Op.{Op}
use Rattle.program.specs.Parts.{Parts, IsWithin, op_count}
use Rattle.write_buffer.specs.declared.entry.Entry.{Entry}
use Rattle.write_buffer.specs.Buffer.{Buffer}
use Rattle.core_unit.specs.Progress.{Progress}
use Rattle.moesi.specs.State as moesi
use Rattle.program.specs.declared.fault.Fault.{Fault}
use Rattle.machine.specs.declared.step.Step.{Step}
use Rattle.machine.specs.declared.blocked.Blocked.{Blocked}
use Rattle.recording.specs.Execution.{Execution}
use Rattle.machine.specs.State.{State, first_event, place_of, opening, recorded, IsComplete}
use Rattle.machine.specs.Step.{exec, step_result, run, IsAt}

-- a list with room for this many items, past which it never grows
pub record BoundedItems (T : Type 0) : Type 0 where
  pub items : List T
  pub room : ℕ

-- each core is before its first operation, and there are this many events in all
pub record AreUnits (p : List (List Op)) (units : List Progress) (total : ℕ) : Type 0 where
  pub one_each : length units ≡ length p
  pub begun : (c : ℕ) (d : Progress) → c < length p → slice_index_or units c d
      ≡ record { first = first_event p c; place = 0 }
  pub events : total ≡ op_count p

-- what a machine holds
pub record Configuration : Type 0 where
  pub program : Parts
  pub capacity : ℕ
  pub fault : Fault
  pub state : State

-- the operations that each core has executed
abbrev pub places_of : List Progress → List ℕ
places_of units = map (λ u. u.place) units

-- the state that the initial values and the parts make
abbrev pub state_from : List ℕ → List Progress → List Buffer → moesi.CacheState → List (BoundedItems ℕ)
    → List (ℕ × Option ℕ) → List ℕ → State
state_from init units buffers caches writes reads performed = record {
  places = places_of units;
  buffers = map (λ b. b.entries) buffers;
  caches = caches;
  write_lists = map (λ l. l.items) writes;
  reads = reads;
  performed = performed;
  initial = init;
}

-- a waiting store is to one of n addresses, and its event is within the limit
abbrev pub IsEntry : ℕ → Entry → Type 0
IsEntry n x = (x.addr < n) × (x.event < MAX_EVENTS)

-- the parts of a machine fit together, and there is room for all that will come
pub record IsSound (p : Parts) (capacity : ℕ) (units : List Progress) (buffers : List Buffer)
    (caches : moesi.CacheState) (writes : List (BoundedItems ℕ)) (reads : List (ℕ × Option ℕ))
    (performed : BoundedItems ℕ) : Type 0 where
  pub operations : All (λ ops. All (IsWithin (length p.names)) ops) p.cores
  pub few : op_count p.cores ≤ MAX_EVENTS
  pub initials : length p.init ≡ length p.names
  pub units_length : length units ≡ length p.cores
  pub buffers_length : length buffers ≡ length p.cores
  pub cache_cores : caches.cores ≡ length p.cores
  pub cache_blocks : length caches.blocks ≡ length p.names
  pub writes_length : length writes ≡ length p.names
  pub events : length reads ≡ op_count p.cores
  pub first : (c : ℕ) (d : Progress) → c < length p.cores
      → (slice_index_or units c d).first ≡ first_event p.cores c
  pub place : (c : ℕ) → slice_index (places_of units) c ≤ length (slice_index_or p.cores c [])
  pub capacities : All (λ b. b.capacity ≡ capacity) buffers
  pub entries : All (λ b. All (IsEntry (length p.names)) b.entries) buffers
  pub write_rooms : All (λ l. l.room ≡ op_count p.cores) writes
  pub write_lengths : All (λ l. length l.items ≤ length performed.items) writes
  pub performed_room : performed.room ≡ op_count p.cores
  pub counted : length performed.items + sum_by (λ b. length b.entries) buffers ≡ sum (places_of units)

-- some list of steps leads from the opening state to this one, and each operation has an address with an
-- initial value
pub record IsReached (p : List (List Op)) (init : List ℕ) (capacity : ℕ) (fault : Fault) (s : State) : Type 0
  where
    pub steps : List Step
    pub leads : run p capacity fault (opening p init) steps ≡ s
    pub operations : All (λ ops. All (IsWithin (length init)) ops) p

-- the room that was made for the recording of a run, and the initial values
pub record BlankSize : Type 0 where
  pub cores : ℕ
  pub events : ℕ
  pub addresses : ℕ
  pub initial : List ℕ

-- what every machine keeps
pub record IsMachine (p : Parts) (capacity : ℕ) (fault : Fault) (units : List Progress)
    (buffers : List Buffer) (caches : moesi.CacheState) (writes : List (BoundedItems ℕ))
    (reads : List (ℕ × Option ℕ)) (performed : BoundedItems ℕ) (blank : BlankSize) : Type 0 where
  pub sound : IsSound p capacity units buffers caches writes reads performed
  pub reached : IsReached p.cores p.init capacity fault
      (state_from p.init units buffers caches writes reads performed.items)
  pub blank_is : blank ≡ record {
    cores = length p.cores;
    events = op_count p.cores;
    addresses = length p.names;
    initial = p.init;
  }

-- The words of a machine's contracts

-- what a machine answers to a step: the state that it leads to, or why it is blocked
abbrev pub answer_of : Configuration → Step → Result State Blocked
answer_of h step = step_result h.program.cores h.capacity h.fault h.state step

-- what it answers where core c executes the operation op as event e
abbrev pub exec_answer : Configuration → ℕ → Op → ℕ → Result State Blocked
exec_answer h c op e = exec h.capacity h.fault h.state c e op

-- a call answered as the row says, and took the machine from h to g, which is h where the step is blocked
pub record IsStepAnswer {A : Type 0} (row : Result State Blocked) (h g : Configuration) (result : Result A Blocked)
    : Type 0 where
  pub ok : OnOk result (row ≡ Ok g.state)
  pub blocked : IfErr result (λ b. row ≡ Err b)
  pub rest : OnOk result (g ≡ record h { state = g.state })
  pub unchanged : OnErr result (g ≡ h)

-- core c is at its operation op, whose event is e
abbrev pub IsNextOf : Configuration → ℕ → Op → ℕ → Type 0
IsNextOf h c op e = IsAt h.program.cores h.state c op e

-- the state after a list of steps
abbrev pub state_after : Configuration → List Step → State
state_after h steps = run h.program.cores h.capacity h.fault h.state steps

-- the recording of what a machine has done
abbrev pub recording_of : Configuration → Execution
recording_of h = recorded h.program.cores h.state

-- every operation was executed, and no store waits
abbrev pub IsAtEnd : Configuration → Type 0
IsAtEnd h = IsComplete h.program.cores h.state

-- the number of the next event of core c
abbrev pub next_event : Configuration → ℕ → ℕ
next_event h c = first_event h.program.cores c + place_of h.state c
