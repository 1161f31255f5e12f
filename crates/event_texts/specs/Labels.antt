-- Labels of a recording's events, and the text that has them, a line each.
use Rattle.std.specs.Prelude.{◌≡◌, ◌+◌, [], ℕ, Bool, List, Option, None, Some, Result, Ok, Err, ⊤, length, map, nat_lt}
use Rattle.std.specs.Prelude.{position}
use Rattle.std.specs.Prelude.{slice_index_or}
use Rattle.bstr.specs.Text.{lines_of, without_terminator}
use Rattle.event_texts.specs.declared.labels.LabelError.{LabelError}
use Rattle.event_texts.specs.declared.labels.LabelError.TheVariants.{TooLong, OutOfMemory}
use Rattle.event_texts.specs.declared.labels.TheConstants.{MAX_LABEL_LEN}

-- the label of event e; empty where it has none
abbrev pub label_at : List (List ℕ) → ℕ → List ℕ
label_at labels e = slice_index_or labels e []

-- the lines of a text, without the newlines that end them, and carriage returns before these
abbrev pub lines_in : List ℕ → List (List ℕ)
lines_in text = map without_terminator (lines_of text)

-- a line is longer than a label may be
abbrev pub is_too_long : List ℕ → Bool
is_too_long line = nat_lt MAX_LABEL_LEN (length line)

-- the lines, or the number of the one at this place, from 1
abbrev pub lines_or : List (List ℕ) → Option ℕ → Result (List (List ℕ)) ℕ
lines_or ls None = Ok ls
lines_or ls (Some i) = Err (i + 1)

-- the labels that a text has, or the number of its first line that is too long for one, from 1
abbrev pub labels_in : List ℕ → Result (List (List ℕ)) ℕ
labels_in text = lines_or (lines_in text) (position is_too_long (lines_in text))

-- why a text has no labels; memory alone is left open
abbrev pub IsLabelError : List ℕ → LabelError → Type 0
IsLabelError text (TooLong n) = labels_in text ≡ Err n
IsLabelError text OutOfMemory = ⊤
