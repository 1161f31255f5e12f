-- Whether words are a cycle: each meets the next, and they come back to where they start.
use Rattle.std.specs.Prelude.{◌+◌, ◌≡◌, ◌≢◌, ◌<◌, ℕ, Bool, true, false, IsSome, IsTrue, List, count_by, if◌then◌else◌}
use Rattle.std.specs.Prelude.{length, nat_lt, slice_index_or}
use Rattle.cycles.specs.declared.word.Link.TheVariants.{Rf}
use Rattle.cycles.specs.declared.word.Word.{Word}
use Rattle.cycles.specs.declared.word.Word.TheVariants.{Pair, Side}
use Rattle.cycles.specs.Words.{is_external, is_other_address, is_turn, meeting}

-- word i
abbrev pub word_at : List Word → ℕ → Word
word_at ws i = slice_index_or ws i (Side (record { link = Rf; same_core = true }))

-- the word after word i; after the last comes the first
abbrev pub word_after : List Word → ℕ → Word
word_after ws i = if nat_lt (i + 1) (length ws) then word_at ws (i + 1) else word_at ws 0

-- an access can stand between word i and the next
abbrev pub Meets : List Word → ℕ → Type 0
Meets ws i = IsSome (meeting (word_at ws i) (word_after ws i))

-- word i is the first that does not meet the next
pub record IsFirstOpen (ws : List Word) (i : ℕ) : Type 0 where
  pub within : i < length ws
  pub unmet : ¬ Meets ws i
  pub first : (j : ℕ) → j < i → Meets ws j

-- a word is no word in program order
abbrev pub is_side : Word → Bool
is_side (Pair p) = false
is_side (Side s) = true

abbrev pub HasSide : List Word → Type 0
HasSide ws = (i : ℕ) × (i < length ws) × IsTrue (is_side (word_at ws i))

-- the writes of an address may begin anew between a word and the next
abbrev pub Turns : List Word → ℕ → Type 0
Turns ws i = IsTrue (is_turn (word_at ws i) (word_after ws i))

abbrev pub HasTurn : List Word → Type 0
HasTurn ws = (i : ℕ) × (i < length ws) × Turns ws i

-- words that meet come back to their first core and their first address: one word alone can't lead to another core, nor
-- to another address; where none leads to another core, one of them leads back there, and where none leads to another
-- address, the writes of the only one begin anew somewhere
pub record AreClosed (ws : List Word) : Type 0 where
  pub cores : count_by is_external ws ≢ 1
  pub core : count_by is_external ws ≡ 0 → HasSide ws
  pub addresses : count_by is_other_address ws ≢ 1
  pub address : count_by is_other_address ws ≡ 0 → HasTurn ws
