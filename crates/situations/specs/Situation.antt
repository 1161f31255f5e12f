-- Machines with store buffers over one memory: how far each core is, and memory.
use Rattle.std.specs.Prelude.{ℕ, List, [], slice_index, slice_index_or, slice_set}
use Rattle.situations.specs.Waiting.{between}

-- what was reached
pub record Situation : Type 0 where
  -- for each core, the place of the first of its steps that it has not executed
  pub places : List ℕ
  -- for each core, the place after its last plain store that memory has
  pub drained : List ℕ
  -- for each address, its value in memory
  pub memory : List ℕ
  -- what else is told apart: of each event the value that it read, say, or of each address a mark of its last write
  pub notes : List ℕ

-- where core c is
abbrev pub place_of : Situation → ℕ → ℕ
place_of r c = slice_index r.places c

-- up to where memory has the stores of core c
abbrev pub drained_of : Situation → ℕ → ℕ
drained_of r c = slice_index r.drained c

-- the steps of core c among which its waiting stores are, where these are the steps of all cores
abbrev pub waiting : {A : Type 0} → List (List A) → Situation → ℕ → List A
waiting steps r c = between (slice_index_or steps c []) (drained_of r c) (place_of r c)

-- core c goes on to place k
abbrev pub with_place : Situation → ℕ → ℕ → Situation
with_place r c k = record r { places = slice_set r.places c k }

-- memory has the stores of core c before place k
abbrev pub with_drained : Situation → ℕ → ℕ → Situation
with_drained r c k = record r { drained = slice_set r.drained c k }

-- address a has the value v
abbrev pub with_value : Situation → ℕ → ℕ → Situation
with_value r a v = record r { memory = slice_set r.memory a v }

-- note i is n
abbrev pub with_note : Situation → ℕ → ℕ → Situation
with_note r i n = record r { notes = slice_set r.notes i n }
