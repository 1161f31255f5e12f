-- What a line says that was observed of a program: items, each what an operation read, as `0:r1=5;`, or what an
-- address ended with, as `[x]=5;` or `x=5;`.
use Rattle.std.specs.Prelude.{◌+◌, ◌-◌, ◌^◌, ◌==◌, ◌++◌, ◌∷◌, ◌&&◌, ◌||◌, ℕ, suc, Bool, true}
use Rattle.std.specs.Prelude.{if◌then◌else◌, Option, Some, None, List, [], Result, Ok, Err, take, drop, position}
use Rattle.std.specs.Prelude.{slice_index, slice_index_or, slice_range, nat_lt, option_map, option_and_then}
use Rattle.std.specs.Prelude.{length}
use Rattle.std.specs.List.{list_any}
use Rattle.program.specs.declared.op.Op.{Op}
use Rattle.program.specs.Names.{name_of, name_eq}
use Rattle.texts.specs.Decimals.{decimal_of}
use Rattle.program.specs.Parts.{Parts}
use Rattle.machine.specs.State.{first_event}
use Rattle.outcomes.specs.declared.observed.Observation.{Observation}
use Rattle.outcomes.specs.declared.observed.Observation.TheVariants.{Read, Final}
use Rattle.outcomes.specs.Observed.{is_of_one}
use Rattle.outcomes.specs.Situation.{does_read}
use Rattle.outcome_texts.specs.declared.items.Ending.{Ending}
use Rattle.outcome_texts.specs.declared.items.Ending.TheVariants.{Needed, Optional}

-- Items

-- the place of the reading operation k of a list that begins at place i
abbrev pub read_at : ℕ → ℕ → List Op → Option ℕ
read_at i k [] = None
read_at i k (op ∷ ops) =
    if does_read op then (if k == 0 then Some i else read_at (suc i) (k - 1) ops) else read_at (suc i) k ops

-- the event of the reading operation k of core c
abbrev pub read_event : Parts → ℕ → ℕ → Option ℕ
read_event p c k = option_map (λ i. first_event p.cores c + i) (read_at 0 k (slice_index_or p.cores c []))

-- a number of 32 bits
unfoldable pub small_number : List ℕ → Option ℕ
small_number text = option_and_then (λ n. if nat_lt n (2 ^ 32) then Some n else None) (decimal_of text)

-- the end of an item's key, and of its core
abbrev pub is_equals : ℕ → Bool
is_equals b = b == 61

abbrev pub is_colon : ℕ → Bool
is_colon b = b == 58

-- the name in a key: what stands between brackets, or all of it
abbrev pub name_in : List ℕ → List ℕ
name_in key =
    if nat_lt 1 (length key) && ((slice_index key 0 == 91) && (slice_index key (length key - 1) == 93))
    then slice_range key 1 (length key - 1) else key

-- what an address ended with
unfoldable pub ended : Parts → List ℕ → ℕ → Option Observation
ended p key v =
    option_and_then (λ name. option_map (λ a. Final a v) (position (name_eq name) p.names)) (name_of (name_in key))

-- what the operation `rk` of the core that is a text read
unfoldable pub read_of : Parts → List ℕ → List ℕ → ℕ → Option Observation
read_of p core rest v =
    if slice_index rest 0 == 114
    then option_and_then (λ c. option_and_then (λ k. option_map (λ e. Read e v) (read_event p c k))
    (small_number (drop 1 rest))) (small_number core)
    else None

-- what an item with this key and value says
unfoldable pub keyed : Parts → List ℕ → ℕ → Option ℕ → Option Observation
keyed p key v None = ended p key v
keyed p key v (Some at) = read_of p (take at key) (drop (at + 1) key) v

-- what an item says, without its `;`
unfoldable pub observation_of : Parts → List ℕ → Option Observation
observation_of p item =
    option_and_then (λ at. option_and_then (λ v. keyed p (take at item) v (position is_colon (take at item)))
    (small_number (drop (at + 1) item))) (position is_equals item)

-- the last byte is `;`
abbrev pub is_ended : List ℕ → Bool
is_ended word = nat_lt 0 (length word) && (slice_index word (length word - 1) == 59)

-- what a word says, which ends with `;`, or may
unfoldable pub observation_in : Parts → Ending → List ℕ → Option Observation
observation_in p Needed word =
    if is_ended word then observation_of p (take (length word - 1) word) else None
observation_in p Optional word =
    if is_ended word then observation_of p (take (length word - 1) word) else observation_of p word

-- Words

-- a byte between words: a space, a tab, or a carriage return
abbrev pub is_blank : ℕ → Bool
is_blank b = (b == 32) || (b == 9) || (b == 13)

-- the words with one more, unless it is empty
abbrev pub with_word : List (List ℕ) → List ℕ → List (List ℕ)
with_word words [] = words
with_word words (b ∷ word) = words ++ (b ∷ word) ∷ []

-- the words of a text after these, where one has begun
abbrev pub words_from : List (List ℕ) → List ℕ → List ℕ → List (List ℕ)
words_from words word [] = with_word words word
words_from words word (b ∷ text) =
    if is_blank b then words_from (with_word words word) [] text else words_from words (word ++ b ∷ []) text

-- the words of a text
abbrev pub words_of : List ℕ → List (List ℕ)
words_of text = words_from [] [] text

-- a word says nothing of the program, or speaks of what an earlier one did
abbrev pub is_refused : List Observation → Option Observation → Bool
is_refused seen None = true
is_refused seen (Some o) = list_any (is_of_one o) seen

-- what was said, and this
abbrev pub with_item : List Observation → Option Observation → List Observation
with_item seen None = seen
with_item seen (Some o) = seen ++ o ∷ []

-- what words say after this, or the number of the first that is refused, where the next has number n
abbrev pub said_from : Parts → Ending → ℕ → List Observation → List (List ℕ) → Result (List Observation) ℕ
said_from p ending n seen [] = Ok seen
said_from p ending n seen (word ∷ words) =
    if is_refused seen (observation_in p ending word) then Err n
    else said_from p ending (n + 1) (with_item seen (observation_in p ending word)) words

-- what words say, or the number of the first that is refused, from 1
abbrev pub said_by : Parts → Ending → List (List ℕ) → Result (List Observation) ℕ
said_by p ending words = said_from p ending 1 [] words

-- Conditions

-- a text after one byte more: `/\` is a space
abbrev pub with_byte : List ℕ → ℕ → List ℕ
with_byte text b =
    if (b == 92) && (nat_lt 0 (length text) && (slice_index text (length text - 1) == 47))
    then take (length text - 1) text ++ 32 ∷ []
    else text ++ b ∷ []

abbrev pub spaced_from : List ℕ → List ℕ → List ℕ
spaced_from text [] = text
spaced_from text (b ∷ rest) = spaced_from (with_byte text b) rest

-- what a condition says: items with `/\` or spaces between them
abbrev pub condition_of : Parts → List ℕ → Result (List Observation) ℕ
condition_of p text = said_by p Optional (words_of (spaced_from [] text))
