-- How words are spelled.
use Rattle.std.specs.Prelude.{◌+◌, ◌==◌, ◌++◌, ◌∷◌, ◌||◌, [], ℕ, Bool, true, false, not, List, Option, Some}
use Rattle.std.specs.Prelude.{None, Result, Ok, Err, codes, drop, if◌then◌else◌, is_some, length, option_and_then}
use Rattle.std.specs.Prelude.{option_map, slice_index}
use Rattle.std.specs.Str.{bytes_eq}
use Rattle.texts.specs.Words.{begins}
use Rattle.cycles.specs.declared.word.Letter.{Letter}
use Rattle.cycles.specs.declared.word.Link.{Link}
use Rattle.cycles.specs.declared.word.Link.TheVariants.{Rf, Fr, Co}
use Rattle.cycles.specs.declared.word.Word.{Word}
use Rattle.cycles.specs.declared.word.Word.TheVariants.{Pair, Side}

-- an `A` stands here
abbrev pub is_marked : List ℕ → ℕ → Bool
is_marked text i = slice_index text i == 65

-- the letter that a byte is: R or W
abbrev pub letter_by : ℕ → Bool → Option Letter
letter_by b atomic =
    if b == 82 then Some (record { is_store = false; is_atomic = atomic })
    else (if b == 87 then Some (record { is_store = true; is_atomic = atomic }) else None)

-- the letter that stands here, with an `A` after it or without
abbrev pub letter_at : List ℕ → ℕ → Option Letter
letter_at text i = letter_by (slice_index text i) (is_marked text (i + 1))

-- how many bytes it has
abbrev pub letter_len : Letter → ℕ
letter_len l = if l.is_atomic then 2 else 1

-- the two letters that a text is
abbrev pub letters : List ℕ → Option (Letter × Letter)
letters text = option_and_then (λ a. option_and_then (λ b.
    if letter_len a + letter_len b == length text then Some (a, b) else None)
    (letter_at text (letter_len a))) (letter_at text 0)

-- a word in program order that ends with these letters
abbrev pub in_order : Bool → Bool → List ℕ → Option Word
in_order fenced same text = option_map (λ l. Pair (record {
  fenced = fenced;
  same_address = same;
  first = l.0;
  second = l.1;
})) (letters text)

-- another word
abbrev pub linked : Link → Bool → Option Word
linked link same = Some (Side (record { link = link; same_core = same }))

-- the word that a text is
unfoldable pub word_of : List ℕ → Option Word
word_of text =
    if bytes_eq text (codes "Rfe") then linked Rf false
    else (if bytes_eq text (codes "Rfi") then linked Rf true
    else (if bytes_eq text (codes "Fre") then linked Fr false
    else (if bytes_eq text (codes "Fri") then linked Fr true
    else (if bytes_eq text (codes "Coe") then linked Co false
    else (if bytes_eq text (codes "Coi") then linked Co true
    else (if bytes_eq text (codes "Wse") then linked Co false
    else (if bytes_eq text (codes "Wsi") then linked Co true
    else (if begins (codes "Pos") text then in_order false true (drop 3 text)
    else (if begins (codes "Pod") text then in_order false false (drop 3 text)
    else (if begins (codes "MFences") text then in_order true true (drop 7 text)
    else (if begins (codes "MFenced") text then in_order true false (drop 7 text)
    else None)))))))))))

-- a byte between words: a space, a tab, or the end of a line
abbrev pub is_blank : ℕ → Bool
is_blank b = (b == 32) || ((b == 9) || ((b == 13) || (b == 10)))

-- a text that is not empty and no word
abbrev pub is_no_word : List ℕ → Bool
is_no_word [] = false
is_no_word (b ∷ text) = not (is_some (word_of (b ∷ text)))

-- the words, and the one that a text is
abbrev pub with_one : List Word → Option Word → List Word
with_one words None = words
with_one words (Some w) = words ++ w ∷ []

abbrev pub with_word : List Word → List ℕ → List Word
with_word words [] = words
with_word words (b ∷ text) = with_one words (word_of (b ∷ text))

-- the words of a text after these, where one has begun, or the number of the first that is none
abbrev pub read_from : List Word → List ℕ → List ℕ → Result (List Word) ℕ
read_from words one [] = if is_no_word one then Err (length words + 1) else Ok (with_word words one)
read_from words one (b ∷ text) =
    if is_blank b
    then (if is_no_word one then Err (length words + 1) else read_from (with_word words one) [] text)
    else read_from words (one ++ b ∷ []) text

-- words, one at least
abbrev pub some_words : Result (List Word) ℕ → Result (List Word) ℕ
some_words (Ok []) = Err 1
some_words (Ok (w ∷ ws)) = Ok (w ∷ ws)
some_words (Err n) = Err n

-- the words of a text, one at least, or the number of the first that is none, or is missing
abbrev pub words_in : List ℕ → Result (List Word) ℕ
words_in text = some_words (read_from [] [] text)
