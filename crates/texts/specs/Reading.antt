-- What it is to read a text line by line, over the step that one line takes.
use Rattle.std.specs.Prelude.{◌≡◌, ℕ, List, [], ◌∷◌, ◌++◌, ◌+◌, ◌==◌, length, Option, None, Some, Result, Ok}
use Rattle.std.specs.Prelude.{Err, if◌then◌else◌, ⊤}
use Rattle.texts.specs.declared.line_error.LineError.{LineError}
use Rattle.texts.specs.declared.line_error.LineError.TheVariants.{AtLine, OutOfMemory}

-- the state after a whole text, or the fault of its first line at fault, with that line's number
abbrev pub Reading : Type 0 → Type 0 → Type 0
Reading S F = Result S (F × ℕ)

-- goes on after line k, unless it is at fault
abbrev pub after_line : {S F : Type 0} → ℕ → Result S F → (S → Reading S F) → Reading S F
after_line k (Ok s) rest = rest s
after_line k (Err f) rest = Err (f, k)

-- reads on in line k, of which `line` was read; a last line without its newline is `unended`
abbrev pub read_from : {S F : Type 0} → (S → List ℕ → Result S F) → F → ℕ → S → List ℕ → List ℕ →
    Reading S F
read_from step unended k s line [] = if length line == 0 then Ok s else Err (unended, k)
read_from step unended k s line (b ∷ bs) =
    if b == 10
    then after_line k (step s line) (λ t. read_from step unended (k + 1) t [] bs)
    else read_from step unended k s (line ++ b ∷ []) bs

-- an answer, beside what is to be read: memory alone is left open
abbrev pub Answers : {S F : Type 0} → Result S (LineError F) → Reading S F → Type 0
Answers (Ok s) r = r ≡ Ok s
Answers (Err (AtLine f k)) r = r ≡ Err (f, k)
Answers (Err OutOfMemory) r = ⊤

-- an answer, beside what is to be said of line k alone
abbrev pub AnswersLine : {S F : Type 0} → Result S (LineError F) → ℕ → Result S F → Type 0
AnswersLine (Ok s) k r = r ≡ Ok s
AnswersLine (Err (AtLine f j)) k r = (r ≡ Err f) × (j ≡ k)
AnswersLine (Err OutOfMemory) k r = ⊤

-- an answer, with its value seen as another
abbrev pub seen_as : {X S E : Type 0} → Result X E → (X → S) → Result S E
seen_as (Ok x) view = Ok (view x)
seen_as (Err e) view = Err e

-- the code's words for a line, by what they say of it; both may be outside the grammar
abbrev pub SaysOption : {S L : Type 0} → (S → L → Type 0) → Option S → Option L → Type 0
SaysOption Says None None = ⊤
SaysOption Says None (Some line) = ⊥
SaysOption Says (Some said) None = ⊥
SaysOption Says (Some said) (Some line) = Says said line
