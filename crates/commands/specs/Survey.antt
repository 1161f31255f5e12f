-- What survey answers.
use Rattle.std.specs.Prelude.{◌≡◌, ◌≢◌, ◌≤◌, ◌^◌, ◌++◌, ◌∷◌, [], ℕ, Bool, List, Option, None, Some, true, false}
use Rattle.std.specs.Prelude.{codes}
use Rattle.std.specs.Prelude.{IfSome, if◌then◌else◌, length, option_map, string_bytes, ⊤}
use Rattle.headers.specs.declared.header.Counted.TheVariants.{LongSurvey, Survey}
use Rattle.headers.specs.declared.header.Counted.{Counted}
use Rattle.headers.specs.declared.header.Header.{Header}
use Rattle.std.specs.Io.KnownBytes.{Appends}
use Rattle.command_line.specs.declared.options.SurveyOptions.{SurveyOptions}
use Rattle.ledger.specs.declared.finding.Finding.{Finding}
use Rattle.ledger.specs.declared.survey_ledger.SurveyLedger.{SurveyLedger}
use Rattle.ledger.specs.Surveyed.{IsSurveyLedger}
use Rattle.surveys.specs.declared.kind.LineKind.{LineKind}
use Rattle.surveys.specs.declared.kind.LineKind.TheVariants.{LongRecording, Recording, Values}
use Rattle.surveys.specs.Found.{AreFindings, codes_of}
use Rattle.surveys.specs.declared.range.LineRange.{LineRange}
use Rattle.surveys.specs.Ranges.{lines_in}
use Rattle.surveys.specs.Shown.{IsLineAmong}
use Rattle.surveys.specs.Each.{each_text}
use Rattle.ledger.specs.Counted.{survey_text, values_survey_text}
use Rattle.verdicts.specs.declared.printed.Answer.{Answer}
use Rattle.verdicts.specs.declared.outcome.Outcome.{Outcome}
use Rattle.verdicts.specs.declared.outcome.Outcome.TheVariants as out
use Rattle.text_judge.specs.Answer.{IsLongAnswerOf}
use Rattle.answers.specs.declared.campaigns.CountsPlace.{CountsPlace}
use Rattle.answers.specs.declared.campaigns.CountsPlace.TheVariants.{Alone}
use Rattle.answers.specs.Campaign.{ledger_outcome}
use Rattle.answers.specs.Survey.{IsLineAnswer, empty_line, values_outcome}
use Rattle.inputs.specs.declared.command_error.CommandError.{CommandError}
use Rattle.inputs.specs.declared.command_error.CommandError.TheVariants.{TooLong, WriteFailed}
use Rattle.inputs.specs.declared.command_stop.CommandStop.{CommandStop}
use Rattle.inputs.specs.declared.command_stop.CommandStop.TheVariants.{Refused, Failed}
use Rattle.inputs.specs.Inputs.{Inputs, IsInputError}
use Rattle.commands.specs.Choices.{violation_form}
use Rattle.commands.specs.Headed.{IsHeaded}

-- a line of each recording is printed before the input's end
abbrev pub TellsEach : SurveyOptions → Type 0
TellsEach o = (o.each ≡ true) × (o.show ≡ None)

-- what the lines are: recordings, with --long within the large limits, or with --complete values, of which each may
-- have this many states
abbrev pub line_kind : Bool → Option ℕ → LineKind
line_kind long None = if long then LongRecording else Recording
line_kind long (Some states) = Values states

-- the counts of such lines, as a text
abbrev pub counts_text : Option ℕ → SurveyLedger → List ℕ
counts_text None ledger = survey_text ledger.ledger
counts_text (Some states) ledger = values_survey_text ledger

-- and how they come out
abbrev pub counts_outcome : Option ℕ → SurveyLedger → Outcome
counts_outcome None ledger = ledger_outcome out.Refused ledger.ledger
counts_outcome (Some states) ledger = values_outcome ledger

-- an answer with the counts of such lines in their place
pub record IsCountsAnswer (complete : Option ℕ) (place : CountsPlace) (ledger : SurveyLedger) (answer : Answer)
    : Type 0 where
  pub outcome : answer.outcome ≡ counts_outcome complete ledger
  pub text : answer.text.items ≡ empty_line place ++ counts_text complete ledger

-- the lines that are surveyed
abbrev pub range_of : SurveyOptions → LineRange
range_of o = record { first = o.from; count = o.lines }

-- these are the lines of the named input that are surveyed, where its bytes are known
abbrev pub AreLinesOf : Inputs → SurveyOptions → List (List ℕ) → Type 0
AreLinesOf inputs o all = IfSome (inputs (string_bytes o.file)) (λ bytes. all ≡ lines_in (range_of o) bytes)

-- whose counts a header is
abbrev pub lines_counted : Bool → Counted
lines_counted long = if long then LongSurvey else Survey

-- the header of counts of so many lines at most from the first on
abbrev pub header_of_lines : Bool → ℕ → ℕ → Header
header_of_lines long first count = record { counted = lines_counted long; first = first; count = count }

-- the header of the counts of lines, where one is asked for; the number of lines is then asked for, too
abbrev pub survey_header : SurveyOptions → Option Header
survey_header o = if o.header then option_map (header_of_lines o.long o.from) o.lines else None

-- what is found in the lines of the named input, in order, and what is counted of their codes
pub record IsSurveyed (inputs : Inputs) (o : SurveyOptions) (findings : List Finding)
    (ledger : SurveyLedger) : Type 0 where
  pub all : List (List ℕ)
  pub given : AreLinesOf inputs o all
  pub found : AreFindings (line_kind o.long o.complete) all findings
  pub counted : IsSurveyLedger (codes_of findings) ledger

-- a line of each was written, an empty line, and their counts
pub record IsEachWritten (inputs : Inputs) (o : SurveyOptions) (before after : Option (List ℕ))
    (outcome : Outcome) : Type 0 where
  pub tells : TellsEach o
  pub findings : List Finding
  pub ledger : SurveyLedger
  pub surveyed : IsSurveyed inputs o findings ledger
  pub outcome_is : outcome ≡ counts_outcome o.complete ledger
  pub written : Appends before after (each_text 0 findings ++ 10 ∷ counts_text o.complete ledger)

-- what is answered to one recording: as by judge --long, or by judge, or by reduce
abbrev pub IsShown : Bool → Bool → List ℕ → Answer → Type 0
IsShown true reduce line answer = IsLongAnswerOf line answer
IsShown false reduce line answer = IsLineAnswer (violation_form reduce) line answer

-- the answer of survey, where no recording is reported, by the one that is to be shown
abbrev pub IsSurveyOf : Inputs → SurveyOptions → Option ℕ → Answer → Type 0
IsSurveyOf inputs o None answer = (o.each ≢ true) × (findings : List Finding) × (ledger : SurveyLedger)
    × IsSurveyed inputs o findings ledger × (counts : Answer) × IsCountsAnswer o.complete Alone ledger counts
    × IsHeaded (survey_header o) counts answer
IsSurveyOf inputs o (Some k) answer = (all : List (List ℕ)) × AreLinesOf inputs o all × (line : List ℕ)
    × IsLineAmong all k line × IsShown o.long o.reduce line answer

-- the named input has no recording of the number that is asked for
abbrev pub IsPastTheEnd : Inputs → SurveyOptions → Option ℕ → Type 0
IsPastTheEnd inputs o None = ⊥
IsPastTheEnd inputs o (Some k) = (all : List (List ℕ)) × AreLinesOf inputs o all × (length all ≤ k)

-- why the named input is not surveyed: it isn't read, or it has 2^64 bytes or more
abbrev pub IsSurveyError : Inputs → SurveyOptions → CommandError → Type 0
IsSurveyError inputs o TooLong = IfSome (inputs (string_bytes o.file)) (λ bytes. 2 ^ 64 ≤ length bytes)
IsSurveyError inputs o error = IsInputError inputs (string_bytes o.file) error

-- why not all of it is reported: it is not surveyed, or a write failed
abbrev pub IsEachError : Inputs → SurveyOptions → CommandError → Type 0
IsEachError inputs o WriteFailed = ⊤
IsEachError inputs o error = IsSurveyError inputs o error

-- why nothing is surveyed: there is no recording with the number that is asked for, or the input isn't read
abbrev pub IsSurveyStop : Inputs → SurveyOptions → Option ℕ → CommandStop → Type 0
IsSurveyStop inputs o show (Refused refusal) = IsPastTheEnd inputs o show
    × (string_bytes refusal.line ≡ codes "refused: K11" ++ 10 ∷ [])
IsSurveyStop inputs o show (Failed error) = IsSurveyError inputs o error
