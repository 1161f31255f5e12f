-- What is made of words, and why nothing is.
use Rattle.std.specs.Prelude.{◌+◌, ◌≡◌, ◌≢◌, ◌<◌, ◌⊎◌, ◌∷◌, [], ℕ, List, Ok, Err, codes, count_by, if◌then◌else◌}
use Rattle.std.specs.Prelude.{length, min, nat_lt, slice_index}
use Rattle.program_events.specs.ProgramOf.{IsProgramOf}
use Rattle.program.specs.declared.name.Name.{Name}
use Rattle.program.specs.Names.{name_text, name_at}
use Rattle.recording.specs.Event.{value_written}
use Rattle.recording.specs.Execution.{Execution, event_at, event_count, write_list}
use Rattle.recording.specs.Recording.{IsShortRecording}
use Rattle.cycles.specs.declared.making.Made.{Made}
use Rattle.cycles.specs.declared.refusal.CycleRefusal.{CycleRefusal}
use Rattle.cycles.specs.declared.refusal.CycleRefusal.TheVariants as refusal
use Rattle.cycles.specs.declared.word.Word.{Word}
use Rattle.cycles.specs.Closing.{AreClosed, IsFirstOpen, Meets, word_at}
use Rattle.cycles.specs.Limits.{IsFirstBeyond}
use Rattle.cycles.specs.Reading.{words_in}
use Rattle.cycles.specs.Says.{Says}
use Rattle.cycles.specs.Words.{is_fenced}

-- Recordings

-- the event after event i of a cycle; after the last comes the first
abbrev pub event_after : List ℕ → ℕ → ℕ
event_after es i = if nat_lt (i + 1) (length es) then slice_index es (i + 1) else slice_index es 0

-- what word i says is so of event i and the next
abbrev pub IsSaidAt : Execution → List Word → List ℕ → ℕ → Type 0
IsSaidAt x ws es i = Says x (word_at ws i) (slice_index es i) (event_after es i)

-- what each word says is so
abbrev pub AreSaid : Execution → List Word → List ℕ → Type 0
AreSaid x ws es = (i : ℕ) → i < length ws → IsSaidAt x ws es i

-- each two of the events differ
abbrev pub AreDistinct : List ℕ → Type 0
AreDistinct es = (i : ℕ) → i < length es → (j : ℕ) → j < i → slice_index es i ≢ slice_index es j

-- an event for each word, of which it says with the next what is so, and a fence for each word that asks for one: no
-- other event
pub record IsMadeOf (ws : List Word) (es : List ℕ) (x : Execution) : Type 0 where
  pub one_each : length es ≡ length ws
  pub distinct : AreDistinct es
  pub said : AreSaid x ws es
  pub no_other : event_count x ≡ length ws + count_by is_fenced ws

-- the writes of an address have the values 1, 2, and so on, in memory order
abbrev pub AreWritten : Execution → ℕ → Type 0
AreWritten x a = (i : ℕ) → i < length (write_list x a)
    → value_written (event_at x (slice_index (write_list x a) i)) ≡ i + 1

-- so have those of each, which begins with 0
pub record HaveDiyValues (x : Execution) : Type 0 where
  pub written : (a : ℕ) → a < length x.write_lists → AreWritten x a
  pub initial : (a : ℕ) → a < length x.initial → slice_index x.initial a ≡ 0

-- the name of address a is its letter: x, y, z, and then a, b, and so on
abbrev pub HasLetter : List Name → ℕ → Type 0
HasLetter names a = name_text (name_at names a) ≡ slice_index (codes "xyzabcdefghijklm") a ∷ []

abbrev pub HaveLetters : List Name → Type 0
HaveLetters names = (a : ℕ) → a < length names → HasLetter names a

-- a recording is what words say, and the program is its own
pub record IsMadeFrom (ws : List Word) (m : Made) : Type 0 where
  pub recording : IsShortRecording m.recording
  pub made : IsMadeOf ws m.events.items m.recording
  pub values : HaveDiyValues m.recording
  pub program : IsProgramOf m.program m.recording
  pub names : HaveLetters m.program.names

pub record IsMade (text : List ℕ) (m : Made) : Type 0 where
  pub words : List Word
  pub read : words_in text ≡ Ok words
  pub made : IsMadeFrom words m

-- Refusals

-- a word, and not the one before it, is the first that the one before it does not meet; or it is the last, and they are
-- not closed
abbrev pub IsOpen : List Word → ℕ → Type 0
IsOpen ws n = ((i : ℕ) × IsFirstOpen ws i × (n ≡ min (length ws) (i + 2)))
    ⊎ (((i : ℕ) → i < length ws → Meets ws i) × (¬ AreClosed ws) × (n ≡ length ws))

-- words are a cycle, but one of more than the limits allow
pub record AreTooMany (ws : List Word) (n : ℕ) : Type 0 where
  pub meet : (i : ℕ) → i < length ws → Meets ws i
  pub closed : AreClosed ws
  pub beyond : IsFirstBeyond ws n

-- why words are no cycle within the limits
abbrev pub IsWordsRefusal : List Word → CycleRefusal → Type 0
IsWordsRefusal ws (refusal.Word n) = ⊥
IsWordsRefusal ws (refusal.Open n) = IsOpen ws n
IsWordsRefusal ws (refusal.Large n) = AreTooMany ws n

-- words are a cycle within the limits
pub record AreCycle (ws : List Word) : Type 0 where
  pub meet : (i : ℕ) → i < length ws → Meets ws i
  pub closed : AreClosed ws
  pub within : (n : ℕ) → ¬ IsFirstBeyond ws n

-- nothing was made of such words, of which the last is named
abbrev pub IsUnmade : List Word → CycleRefusal → Type 0
IsUnmade ws r = AreCycle ws × (r ≡ refusal.Open (length ws))

-- why nothing is made
abbrev pub IsRefusal : List ℕ → CycleRefusal → Type 0
IsRefusal text r = ((n : ℕ) × (words_in text ≡ Err n) × (r ≡ refusal.Word n))
    ⊎ ((ws : List Word) × (words_in text ≡ Ok ws) × (IsWordsRefusal ws r ⊎ IsUnmade ws r))
