-- What every run keeps.
use Rattle.std.specs.Prelude.{◌≡◌, ◌<◌, ◌≤◌, ◌+◌, ◌&&◌, ℕ, false, ⊤, List, [], ◌∷◌, ◌++◌, map, take, length}
use Rattle.std.specs.Prelude.{slice_index_or, sum, sum_by, count_by, All}
use Rattle.program.specs.declared.op.Op.{Op}
use Rattle.program.specs.declared.op.Op.TheVariants.{St}
use Rattle.program.specs.Parts.{IsWithin}
use Rattle.recording.specs.Execution.{placed_from}
use Rattle.recording.specs.Order.{times, Before}
use Rattle.recording.specs.Tso.{IsTsoOrder, IsWellFormed}
use Rattle.program_events.specs.Operations.{placed_op, is_st, is_ld}
use Rattle.program.specs.declared.fault.Fault.{Fault}
use Rattle.write_buffer.specs.declared.entry.Entry.{Entry}
use Rattle.moesi.specs.State as moesi
use Rattle.program.specs.declared.fault.Fault.TheVariants as fault
use Rattle.machine.specs.declared.step.Step.{Step}
use Rattle.machine.specs.State.{State, place_of, buffer_of, first_event, recorded, opening, IsComplete}
use Rattle.machine.specs.Step.{run}

-- event e is one of the program's, and its core has executed it
abbrev pub IsExecuted : List (List Op) → State → ℕ → Type 0
IsExecuted p s e = (e < length (placed_from 0 p))
    × (e < first_event p (placed_op p e).0 + place_of s (placed_op p e).0)

-- each waiting entry is the store of its event
abbrev pub AreStores : List (List Op) → ℕ → List Entry → Type 0
AreStores p c [] = ⊤
AreStores p c (x ∷ xs) = (placed_op p x.event ≡ (c, St x.addr x.value)) × AreStores p c xs

-- the events as core c sees them: what was performed, then what waits in its buffer
abbrev pub seen_by : State → ℕ → List ℕ
seen_by s c = s.performed ++ map (λ x. x.event) (buffer_of s c)

-- what fits together in a state of a program of n addresses
pub record IsOrderly (p : List (List Op)) (n : ℕ) (s : State) : Type 0 where
  -- each core has a place within its operations, and a buffer
  pub places : length s.places ≡ length p
  pub within : (c : ℕ) → place_of s c ≤ length (slice_index_or p c [])
  pub buffers : length s.buffers ≡ length p
  -- each address has a write list, and a line for each core; the operations have these addresses
  pub lists : length s.write_lists ≡ n
  pub blocks : length s.caches.blocks ≡ n
  pub lines : (a : ℕ) → a < n → length (moesi.block_of s.caches a).lines ≡ length p
  pub addresses : (e : ℕ) → IsWithin n (placed_op p e).1
  -- what was executed was performed or waits: it stands once among what its core sees, and nothing else does
  pub counted : sum s.places ≡ length s.performed + sum_by (λ b. length b) s.buffers
  pub once : (e : ℕ) → IsExecuted p s e → times (seen_by s (placed_op p e).0) e ≡ 1
  pub executed : (c e : ℕ) → 0 < times (seen_by s c) e → IsExecuted p s e
  -- what waits are plain stores, no more than its core has executed
  pub stores : (c : ℕ) → AreStores p c (buffer_of s c)
  pub few : (c : ℕ) → length (buffer_of s c) ≤ count_by is_st (take (place_of s c) (slice_index_or p c []))
  -- what is earlier on a core stands earlier, unless it is a plain store before a plain load
  pub kept : (e f : ℕ) → (e < f) × (f < length (placed_from 0 p)) × ((placed_op p e).0 ≡ (placed_op p f).0)
      → IsExecuted p s f
      → (is_st (placed_op p e).1 && is_ld (placed_op p f).1) ≡ false
      → Before (seen_by s (placed_op p f).0) e f

-- every run without fault leads to such a state
abbrev pub EveryStateIsOrderly : List (List Op) → List ℕ → ℕ → List Step → Type 0
EveryStateIsOrderly p init capacity steps = All (λ ops. All (IsWithin (length init)) ops) p
    → IsOrderly p (length init) (run p capacity fault.None (opening p init) steps)

-- where a run without fault is complete, the order of what it performed is one that TSO allows for
-- its recording
abbrev pub EveryRunIsTso : List (List Op) → List ℕ → ℕ → List Step → Type 0
EveryRunIsTso p init capacity steps =
    let s = run p capacity fault.None (opening p init) steps in
    All (λ ops. All (IsWithin (length init)) ops) p → IsComplete p s → IsTsoOrder (recorded p s) s.performed

-- where a run under any fault is complete, its recording is well formed
abbrev pub EveryRunIsWellFormed : List (List Op) → List ℕ → ℕ → Fault → List Step → Type 0
EveryRunIsWellFormed p init capacity fault steps =
    let s = run p capacity fault (opening p init) steps in
    All (λ ops. All (IsWithin (length init)) ops) p → IsComplete p s → IsWellFormed (recorded p s)
