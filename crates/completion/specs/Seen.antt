-- What a search has seen: situations, and which of them are dead.
use Rattle.std.specs.Prelude.{◌≡◌, ◌⊎◌, ℕ, true, false, None, Some, List, All, Contains, length, slice_get}
use Rattle.std.specs.Prelude.{slice_index_or}
use Rattle.std.specs.List.{IsDistinct}
use Rattle.completion.specs.declared.moves.Move.{Move}
use Rattle.completion.specs.declared.moves.Turn.{Turn}
use Rattle.completion.specs.declared.seen.Seen.{Seen}
use Rattle.values.specs.Values.{Values}
use Rattle.completion.specs.Situation.{moved, beginning, IsEnd}
use Rattle.situations.specs.Situation.{Situation}
use Rattle.situations.specs.Row.{same_situation}
use Rattle.completion.specs.Search.{IsEarly, IsHopeless}
use Rattle.completion.specs.Reachable.{Leads}

-- a move of core c
abbrev pub turn_of : Move → ℕ → Turn
turn_of move c = record { step = move; core = c }

-- a move of core c comes too early, can't be made, or is among these
abbrev pub IsTaken : Values → Situation → List Turn → Move → ℕ → Type 0
IsTaken v r turns move c = IsEarly v r move c ⊎ ((moved v r move c ≡ None) ⊎ Contains turns (turn_of move c))

-- a situation has a number
abbrev pub HasNumber : Seen → Situation → ℕ → Type 0
HasNumber seen r i = slice_get seen.rows.keys i ≡ Some r

-- a situation was seen, and is dead
abbrev pub IsDead : Seen → Situation → Type 0
IsDead seen r = (i : ℕ) × HasNumber seen r i × (slice_index_or seen.dead.items i false ≡ true)

-- a move of core c can't be made, comes too early, or leads to what is hopeless or dead
abbrev pub IsVain : Values → Seen → Situation → Move → ℕ → Type 0
IsVain v seen r move c = IsEarly v r move c
    ⊎ ((s : Situation) → moved v r move c ≡ Some s → IsHopeless v.cores s ⊎ IsDead seen s)

-- each situation was reached, once, and is not at its end; all moves of dead ones are vain
pub record AreSearched (v : Values) (seen : Seen) : Type 0 where
  pub cores : seen.rows.cores ≡ length v.cores
  pub addresses : seen.rows.addresses ≡ length v.initial
  pub notes : seen.rows.notes ≡ length v.initial
  pub size : length seen.dead.items ≡ length seen.rows.keys
  pub reached : All (Leads v (beginning v)) seen.rows.keys
  pub different : IsDistinct same_situation seen.rows.keys
  pub no_end : All (λ r. ¬ IsEnd v r) seen.rows.keys
  pub vain : (r : Situation) → IsDead seen r → (move : Move) (c : ℕ) → IsVain v seen r move c

-- situations keep their numbers, and what is dead stays dead
pub record Grows (old new : Seen) : Type 0 where
  pub rows : (r : Situation) (i : ℕ) → HasNumber old r i → HasNumber new r i
  pub dead : (i : ℕ) → slice_index_or old.dead.items i false ≡ true → slice_index_or new.dead.items i false ≡ true
