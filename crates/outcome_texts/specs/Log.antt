-- What a log says that was observed of a program, a line for each outcome, as litmus7 or a testbench prints it.
use Rattle.std.specs.Prelude.{◌+◌, ◌==◌, ◌++◌, ◌∷◌, ◌&&◌, ◌||◌, ℕ, Bool, true, false, not, if◌then◌else◌}
use Rattle.std.specs.Prelude.{List, [], Result, Ok, Err, take, drop, slice_index}
use Rattle.std.specs.List.{list_any, prefix_len}
use Rattle.texts.specs.Decimals.{is_digit}
use Rattle.program.specs.Parts.{Parts}
use Rattle.outcomes.specs.declared.observed.Observation.{Observation}
use Rattle.outcome_texts.specs.declared.items.Ending.TheVariants.{Needed}
use Rattle.outcome_texts.specs.declared.seen.LineSays.{LineSays}
use Rattle.outcome_texts.specs.declared.seen.LineSays.TheVariants.{Silent, Refused, Says}
use Rattle.outcome_texts.specs.Seen.{Seen}
use Rattle.outcome_texts.specs.ObservedLine.{is_blank, is_colon, is_equals, said_by, words_of}

-- Parts of a line

-- what stands before a `#`, which begins a comment
abbrev pub is_plain_byte : ℕ → Bool
is_plain_byte b = not (b == 35)

abbrev pub uncommented : List ℕ → List ℕ
uncommented line = take (prefix_len is_plain_byte line) line

-- how many blanks come first
abbrev pub blanks : List ℕ → ℕ
blanks text = prefix_len is_blank text

-- how many digits come first
abbrev pub digits : List ℕ → ℕ
digits text = prefix_len is_digit text

-- what stands after the blanks
abbrev pub trimmed : List ℕ → List ℕ
trimmed text = drop (blanks text) text

-- a mark comes first: `*>` or `:>`
abbrev pub is_marked : List ℕ → Bool
is_marked text = ((slice_index text 0 == 42) || (slice_index text 0 == 58)) && (slice_index text 1 == 62)

-- what stands after the mark, if there is one
abbrev pub after_mark : List ℕ → List ℕ
after_mark text = if is_marked text then drop 2 text else text

-- digits before this are a count: a blank or a mark comes next
abbrev pub is_counted : List ℕ → Bool
is_counted rest = is_blank (slice_index rest 0) || is_marked rest

-- how many digits of the count come first
abbrev pub count_len : List ℕ → ℕ
count_len text = if is_counted (drop (digits text) text) then digits text else 0

-- what stands after the count and the mark
abbrev pub after_count : List ℕ → List ℕ
after_count text = after_mark (trimmed (drop (count_len text) text))

-- a word with `=` and `;` is an item
abbrev pub is_semicolon : ℕ → Bool
is_semicolon b = b == 59

abbrev pub is_item : List ℕ → Bool
is_item word = list_any is_equals word && list_any is_semicolon word

-- a line that says nothing: it has no item, or it begins with `{`, as litmus7 prints initial values
abbrev pub is_silent : List ℕ → List (List ℕ) → Bool
is_silent text words = (slice_index text 0 == 123) || not (list_any is_item words)

-- As they are printed

-- a byte of an item's key
abbrev pub no_equals : ℕ → Bool
no_equals b = not (is_equals b)

-- an item, with its address between brackets
abbrev pub bracketed : ℕ → List ℕ → List ℕ
bracketed at word = 91 ∷ [] ++ (take at word ++ (93 ∷ [] ++ drop at word))

-- an item that is printed as it stands: it says what was read, or it has brackets
abbrev pub is_plain : List ℕ → Bool
is_plain word = list_any is_colon word || (slice_index word 0 == 91)

abbrev pub item_text : List ℕ → List ℕ
item_text word =
    if is_plain word then word
    else bracketed (prefix_len no_equals word) word

-- a space and the count, if there is one
abbrev pub count_text : List ℕ → List ℕ
count_text [] = []
count_text (b ∷ count) = 32 ∷ (b ∷ count)

-- a space and an item, for each item
abbrev pub item_texts : List ℕ → List (List ℕ) → List ℕ
item_texts out [] = out
item_texts out (word ∷ words) = item_texts (out ++ (32 ∷ [] ++ item_text word)) words

-- Lines

-- what the words of a line say, of which this is the count
abbrev pub said_of : List ℕ → List (List ℕ) → Result (List Observation) ℕ → LineSays
said_of count words (Ok items) = Says (record { text = item_texts (count_text count) words; items = items })
said_of count words (Err n) = Refused

abbrev pub words_say : Parts → List ℕ → List (List ℕ) → LineSays
words_say p text words =
    if is_silent text words then Silent
    else said_of (take (count_len text) text) words (said_by p Needed words)

-- what a line says, by what stands on it after blanks
abbrev pub said_after_blanks : Parts → List ℕ → LineSays
said_after_blanks p text = words_say p text (words_of (after_count text))

-- what a line says
abbrev pub line_says : Parts → List ℕ → LineSays
line_says p line = said_after_blanks p (trimmed (uncommented line))

-- Logs

-- the line is refused
abbrev pub is_refused : LineSays → Bool
is_refused Refused = true
is_refused other = false

-- what lines say, and this one
abbrev pub with_line : List Seen → LineSays → List Seen
with_line seen (Says one) = seen ++ one ∷ []
with_line seen other = seen

-- what lines say after this, or the number of the first that is refused, where the next has number n
abbrev pub log_from : Parts → ℕ → List Seen → List (List ℕ) → Result (List Seen) ℕ
log_from p n seen [] = Ok seen
log_from p n seen (line ∷ lines) =
    if is_refused (line_says p line) then Err n else log_from p (n + 1) (with_line seen (line_says p line)) lines

-- the lines of a text after these, where one has begun
abbrev pub lines_from : List (List ℕ) → List ℕ → List ℕ → List (List ℕ)
lines_from lines line [] = lines ++ line ∷ []
lines_from lines line (b ∷ text) =
    if b == 10 then lines_from (lines ++ line ∷ []) [] text else lines_from lines (line ++ b ∷ []) text

-- the lines of a text
abbrev pub lines_of : List ℕ → List (List ℕ)
lines_of text = lines_from [] [] text

-- what a log says, or the number of its first line that is refused, from 1
abbrev pub log_says : Parts → List ℕ → Result (List Seen) ℕ
log_says p text = log_from p 1 [] (lines_of text)
