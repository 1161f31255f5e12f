-- What merge answers.
use Rattle.std.specs.Prelude.{◌≡◌, ◌<◌, ◌+◌, ◌++◌, ◌∷◌, ◌==◌, ◌||◌, [], ℕ, Bool, List, Option, codes, decimal, false}
use Rattle.std.specs.Prelude.{length, map, if◌then◌else◌, slice_index, slice_index_or, string_bytes, take, true}
use Rattle.std.specs.List.{AllZip, concat}
use Rattle.command_line.specs.declared.options.MergeOptions.{MergeOptions}
use Rattle.ledger.specs.declared.ledger.Ledger.{Ledger}
use Rattle.headers.specs.Headers.{header_line}
use Rattle.ledger.specs.Counted.{count_line}
use Rattle.ledger.specs.Counts.{IsLedger}
use Rattle.ledger.specs.declared.merge_error.MergeError.{MergeError}
use Rattle.ledger.specs.declared.merge_error.MergeError.TheVariants as errors
use Rattle.ledger.specs.declared.merge_error.Seam.{Seam}
use Rattle.ledger.specs.declared.joined.Gaps.{Gaps}
use Rattle.ledger.specs.declared.joined.Gaps.TheVariants as gaps
use Rattle.ledger.specs.declared.joined.Joined.{Joined}
use Rattle.ledger.specs.Ordered.{AreJoined, IsNoJoin}
use Rattle.ledger.specs.Sections.{kind_of}
use Rattle.ledger.specs.declared.merge_error.MergeRefusal.{MergeRefusal}
use Rattle.ledger.specs.declared.merge_error.MergeRefusal.TheVariants.{NoLine, NoCodes, NoHeader, OtherCampaign, OtherKind}
use Rattle.ledger.specs.declared.merge_error.MergeRefusal.TheVariants.{TooMany}
use Rattle.ledger.specs.declared.text_kind.Kind.{Kind}
use Rattle.ledger.specs.declared.text_kind.Kind.TheVariants.{Campaign, Survey}
use Rattle.ledger.specs.Merges.{Refuses}
use Rattle.ledger.specs.Texts.{AreFiles}
use Rattle.verdicts.specs.declared.printed.Answer.{Answer}
use Rattle.answers.specs.declared.campaigns.CountsPlace.TheVariants.{Alone}
use Rattle.answers.specs.Campaign.{IsTrialsAnswer}
use Rattle.answers.specs.Survey.{IsSurveyAnswer}
use Rattle.inputs.specs.declared.command_error.CommandError.{CommandError}
use Rattle.inputs.specs.declared.command_error.CommandError.TheVariants.{OutOfMemory}
use Rattle.inputs.specs.declared.command_stop.CommandStop.{CommandStop}
use Rattle.inputs.specs.declared.command_stop.CommandStop.TheVariants.{Refused, Failed}
use Rattle.inputs.specs.Inputs.{AreBytesOf, Inputs, IsInputError}

-- why the input of one of these names isn't read
abbrev pub IsErrorAmong : Inputs → List (List ℕ) → CommandError → Type 0
IsErrorAmong inputs names error =
    (k : ℕ) × (k < length names) × IsInputError inputs (slice_index_or names k []) error

-- the counts of a ledger, and how they come out
abbrev pub IsMergedAnswer : Kind → Ledger → Answer → Type 0
IsMergedAnswer Campaign l answer = IsTrialsAnswer l answer
IsMergedAnswer Survey l answer = IsSurveyAnswer Alone l answer

-- the texts are those of lists of codes, and whatever lists they are those of, the answer is that of the ledger of them
-- all joined
pub record IsMergeAnswer (texts : List (List ℕ)) (answer : Answer) : Type 0 where
  pub kind : Kind
  pub codes : List (List ℕ)
  pub are : AreFiles kind codes texts
  pub ledger : Ledger
  pub counted : IsLedger (concat codes) ledger
  pub answered : IsMergedAnswer kind ledger answer
  pub only : (other : Kind) (others : List (List ℕ)) (l : Ledger) → AreFiles other others texts
      → IsLedger (concat others) l → IsMergedAnswer other l answer

-- the line of how many are missing, where gaps are counted
abbrev pub missing_line : Gaps → ℕ → List ℕ
missing_line gaps.Refuse n = []
missing_line gaps.Count n = count_line (codes "missing") n

-- the header of what is joined, how many are missing, and the counts
pub record IsJoinedAnswer (how : Gaps) (j : Joined) (answer : Answer) : Type 0 where
  pub counts : Answer
  pub counted : IsMergedAnswer (kind_of j.header.counted) j.ledger counts
  pub outcome : answer.outcome ≡ counts.outcome
  pub text : answer.text.items ≡ header_line j.header ++ (missing_line how j.missing ++ counts.text.items)

-- the answer of texts with headers
abbrev pub IsJoinAnswer : Gaps → List (List ℕ) → Answer → Type 0
IsJoinAnswer how texts answer = (j : Joined) × AreJoined how texts j × IsJoinedAnswer how j answer

-- whether texts have headers: the first begins with one, or gaps between them are counted
abbrev pub is_headed : Bool → List (List ℕ) → Bool
is_headed partial texts = partial || (slice_index (slice_index_or texts 0 []) 0 == 35)

abbrev pub gaps_of : Bool → Gaps
gaps_of partial = if partial then gaps.Count else gaps.Refuse

-- the answer of texts
abbrev pub IsAnswerOfTexts : Bool → Gaps → List (List ℕ) → Answer → Type 0
IsAnswerOfTexts true how texts answer = IsJoinAnswer how texts answer
IsAnswerOfTexts false how texts answer = IsMergeAnswer texts answer

-- the answer of merge, whose texts are the bytes of the named inputs, in order
abbrev pub IsMerged : Inputs → MergeOptions → Answer → Type 0
IsMerged inputs o answer = (texts : List (List ℕ))
    × AllZip (AreBytesOf inputs) (map string_bytes o.files.items) texts
    × IsAnswerOfTexts (is_headed o.partial texts) (gaps_of o.partial) texts answer

-- the name of the refusal of a text
abbrev pub merge_refusal_name : MergeRefusal → List ℕ
merge_refusal_name NoLine = codes "M1"
merge_refusal_name NoCodes = codes "M2"
merge_refusal_name OtherKind = codes "M3"
merge_refusal_name OtherCampaign = codes "M4"
merge_refusal_name TooMany = codes "M7"
merge_refusal_name NoHeader = codes "M8"

-- what is printed for a line of the input of this name, up to the end of the printed line
abbrev pub merge_head : MergeRefusal → ℕ → List ℕ → List ℕ
merge_head refusal line name = codes "refused: " ++ merge_refusal_name refusal ++ codes " line " ++ decimal line
    ++ codes " of " ++ name

-- the line that is printed for a line of the input of this name
abbrev pub merge_line : MergeRefusal → ℕ → List ℕ → List ℕ
merge_line refusal line name = merge_head refusal line name ++ 10 ∷ []

-- the texts up to that of one of the names are those of no lists of codes, or of 2^64 codes or more, whatever
-- comes after them; which of its lines is named no clause says
pub record IsRefusedMerge (names texts : List (List ℕ)) (printed : List ℕ) : Type 0 where
  pub refusal : MergeRefusal
  pub file : ℕ
  pub line : ℕ
  pub among : file < length names
  pub printed_is : printed ≡ merge_line refusal line (slice_index_or names file [])
  pub none : (kind : Kind) (codes later : List (List ℕ)) → AreFiles kind codes (take (file + 1) texts ++ later)
      → Refuses refusal (length (concat codes))

-- what a seam is between
abbrev pub seam_noun : Kind → List ℕ
seam_noun Campaign = codes "seeds "
seam_noun Survey = codes "lines "

-- what is printed for a seam, up to the names of files
abbrev pub seam_head : List ℕ → Seam → List ℕ
seam_head number seam = codes "refused: " ++ number ++ codes " " ++ seam_noun seam.kind ++ decimal seam.from
    ++ codes " to " ++ decimal seam.to

-- the line that is printed for a text of another campaign than that of the first file
abbrev pub other_line : List ℕ → List ℕ → List ℕ
other_line head first = head ++ codes " beside " ++ first ++ 10 ∷ []

-- for a text with a header
abbrev pub text_line : MergeRefusal → ℕ → List ℕ → List ℕ → List ℕ
text_line OtherCampaign line name first = other_line (merge_head OtherCampaign line name) first
text_line refusal line name first = merge_line refusal line name

-- for a gap between two files
abbrev pub gap_line : List ℕ → List ℕ → List ℕ → List ℕ
gap_line head name other = head ++ codes " between " ++ name ++ codes " and " ++ other ++ 10 ∷ []

-- for what two files both have
abbrev pub overlap_line : List ℕ → List ℕ → List ℕ → List ℕ
overlap_line head name other = head ++ codes " of " ++ name ++ codes " and " ++ other ++ 10 ∷ []

-- the line that is printed where texts with headers, in files of these names, are not joined
abbrev pub join_line : List (List ℕ) → MergeError → List ℕ
join_line names (errors.Refused refusal file line) =
    text_line refusal line (slice_index_or names file []) (slice_index_or names 0 [])
join_line names (errors.Gap seam) =
    gap_line (seam_head (codes "M5") seam) (slice_index_or names seam.file []) (slice_index_or names seam.other [])
join_line names (errors.Overlap seam) =
    overlap_line (seam_head (codes "M6") seam) (slice_index_or names seam.file []) (slice_index_or names seam.other [])
join_line names errors.OutOfMemory = []

-- texts with headers are not joined, and it is printed why
abbrev pub IsRefusedJoin : List (List ℕ) → List (List ℕ) → List ℕ → Type 0
IsRefusedJoin names texts printed = (error : MergeError) × IsNoJoin texts error × (printed ≡ join_line names error)

-- texts are refused
abbrev pub AreRefused : Bool → List (List ℕ) → List (List ℕ) → List ℕ → Type 0
AreRefused true names texts printed = IsRefusedJoin names texts printed
AreRefused false names texts printed = IsRefusedMerge names texts printed

-- why merge stops: the texts are refused, or an input isn't read
abbrev pub IsMergeStop : Inputs → MergeOptions → CommandStop → Type 0
IsMergeStop inputs o (Refused refusal) = (texts : List (List ℕ))
    × AllZip (AreBytesOf inputs) (map string_bytes o.files.items) texts
    × AreRefused (is_headed o.partial texts) (map string_bytes o.files.items) texts (string_bytes refusal.line)
IsMergeStop inputs o (Failed error) = IsErrorAmong inputs (map string_bytes o.files.items) error

-- texts are refused, or there is no memory
abbrev pub IsTextsStop : Bool → List (List ℕ) → List (List ℕ) → CommandStop → Type 0
IsTextsStop headed names texts (Refused refusal) = AreRefused headed names texts (string_bytes refusal.line)
IsTextsStop headed names texts (Failed error) = error ≡ OutOfMemory
