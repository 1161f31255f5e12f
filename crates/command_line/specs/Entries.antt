-- What the entries of a command ask for: each option is its entry, or else its default.
use Rattle.std.specs.Prelude.{◌≡◌, ◌≢◌, ◌&&◌, ◌||◌, ℕ, Bool, List, Option, Some, None, IfSome, codes, ◌+◌, ◌==◌, ◌++◌}
use Rattle.std.specs.Prelude.{[], ◌∷◌, ⊤, false, find, count_by, if◌then◌else◌, is_some, nat_lt, not, option_map, true}
use Rattle.std.specs.Prelude.{unwrap_or}
use Rattle.std.specs.Option.{option_map_or, option_or}
use Rattle.std.specs.List.{list_any}
use Rattle.std.specs.Str.{bytes_eq}
use Rattle.std.specs.Str.Parse.{digits_value, without_leading_plus}
use Rattle.clap.specs.Words.{IsUnsignedIn, Row, Text, all_of, first_of, one_of}
use Rattle.clap.specs.Takes.{is_given}
use Rattle.clap.specs.Values.{bool_text}
use Rattle.program.specs.declared.fault.Fault.{Fault}
use Rattle.headers.specs.Faults.{fault_named}
use Rattle.command_line.specs.declared.options.Limits.{Limits}
use Rattle.command_line.specs.declared.options.Misfit.{Misfit}
use Rattle.command_line.specs.declared.options.Misfit.TheVariants.{EachWithShow, CompleteWithShow, HeaderWithShow}
use Rattle.command_line.specs.declared.options.Misfit.TheVariants.{ReduceWithoutShow, StatesWithoutComplete}
use Rattle.command_line.specs.declared.options.Misfit.TheVariants.{HeaderWithComplete, HeaderWithEach}
use Rattle.command_line.specs.declared.options.Misfit.TheVariants.{HeaderWithoutLines, RunsWithSteps, TwoQuestions}
use Rattle.command_line.specs.declared.options.Misfit.TheVariants.{UnseenWithoutObserved, WhyWithoutObserved}
use Rattle.command_line.specs.declared.options.Misfit.TheVariants.{CompleteWithLong, ProgramWithLong, ReduceWithLong}
use Rattle.command_line.specs.declared.options.Misfit.TheVariants.{WorkersWithLong, WorkersWithoutRuns, CycleWithAll}
use Rattle.command_line.specs.declared.options.Misfit.TheVariants.{ForbiddenWithoutAll, NoCycle}
use Rattle.command_line.specs.declared.options.TheConstants.{DEFAULT_FAULT}
use Rattle.command_line.specs.declared.table.Takes.{Takes}
use Rattle.command_line.specs.declared.table.Takes.TheVariants as takes
use Rattle.command_line.specs.Commands.{commands}

-- the number that a text writes
abbrev pub number_written : Text → ℕ
number_written text = digits_value 10 (without_leading_plus text)

-- the number that an entry's text writes, or else the default
abbrev pub number_or : ℕ → Option Text → ℕ
number_or default entry = unwrap_or (option_map number_written entry) default

-- the number of an option
abbrev pub number_of : Text → Limits → List Row → ℕ
number_of id limits rows = number_or limits.default (one_of id rows)

-- the number of an option that clap asks for; 0 stands for no entry
abbrev pub size_of : Text → List Row → ℕ
size_of id rows = number_or 0 (one_of id rows)

-- --show
abbrev pub show_of : List Row → Option ℕ
show_of rows = option_map number_written (one_of (codes "show") rows)

-- --runs
abbrev pub runs_of : List Row → Option ℕ
runs_of rows = option_map number_written (one_of (codes "runs") rows)

-- the fault that an entry's text names, or else the default
abbrev pub fault_or : Fault → Option Text → Option Fault
fault_or default None = Some default
fault_or default (Some name) = fault_named name

-- --fault; none where its text is no fault's name
abbrev pub machine_fault_of : List Row → Option Fault
machine_fault_of rows = fault_or DEFAULT_FAULT (first_of (codes "fault") rows)

-- an input is standard input
abbrev pub is_standard_input : Text → List Row → Bool
is_standard_input id rows = option_map_or (λ name. bytes_eq name (codes "-")) (first_of id rows) false

-- the names that an argument gives
abbrev pub names_given : Text → List Row → List Text
names_given id rows = unwrap_or (all_of id rows) []

-- one argument names standard input more than once
abbrev pub repeats_standard_input : Text → List Row → Bool
repeats_standard_input id rows = nat_lt 1 (count_by (λ name. bytes_eq name (codes "-")) (names_given id rows))

-- two inputs are
abbrev pub names_standard_input_twice : List Row → Bool
names_standard_input_twice rows =
    repeats_standard_input (codes "FILE") rows
    || (is_standard_input (codes "PROGRAM") rows && is_standard_input (codes "steps") rows)
    || (is_standard_input (codes "FILE") rows && is_standard_input (codes "program") rows)
    || (is_standard_input (codes "FILE") rows && is_standard_input (codes "labels") rows)
    || (is_standard_input (codes "program") rows && is_standard_input (codes "labels") rows)
    || (is_standard_input (codes "RECORDING") rows && is_standard_input (codes "VERDICT") rows)
    || (is_standard_input (codes "PROGRAM") rows && is_standard_input (codes "observed") rows)

-- whether there is an entry, as a number
abbrev pub given : Text → List Row → ℕ
given id rows = option_map_or (λ text. 1) (first_of id rows) 0

-- how many questions are asked of outcomes
abbrev pub questions : List Row → ℕ
questions rows = given (codes "observed") rows + given (codes "exists") rows + given (codes "never") rows
    + given (codes "items") rows

-- the options of outcomes that don't go together: two that ask different things, or --unseen or --why without
-- --observed
abbrev pub question_misfit : List Row → Option Misfit
question_misfit rows = if nat_lt 1 (questions rows) then Some TwoQuestions
    else (if is_given (codes "unseen") rows && (given (codes "observed") rows == 0) then Some UnseenWithoutObserved
    else (if is_given (codes "why") rows && (given (codes "observed") rows == 0) then Some WhyWithoutObserved
    else None))

-- the words are those of a survey without --complete: no other command has an entry for this flag
abbrev pub surveys_recordings : List Row → Bool
surveys_recordings rows = option_map_or (λ text. bytes_eq text (codes "false")) (first_of (codes "complete") rows) false

-- what doesn't go together with --header of survey: --each or --complete, or that --lines is missing
abbrev pub header_misfit : List Row → Option Misfit
header_misfit rows =
    if is_given (codes "header") rows && is_given (codes "each") rows then Some HeaderWithEach
    else (if is_given (codes "header") rows && is_given (codes "complete") rows then Some HeaderWithComplete
    else (if is_given (codes "header") rows && surveys_recordings rows && not (is_some (one_of (codes "lines") rows))
    then Some HeaderWithoutLines else None))

-- the options of survey that don't go together: --complete with --show, --states without --complete, or those with
-- --header
abbrev pub survey_misfit : List Row → Option Misfit
survey_misfit rows =
    if is_some (show_of rows) && is_given (codes "complete") rows then Some CompleteWithShow
    else (if is_some (one_of (codes "states") rows) && surveys_recordings rows then Some StatesWithoutComplete
    else header_misfit rows)

-- the words are those of run, of whose program's runs workers share some: no other command takes a program and workers
abbrev pub shares_runs : List Row → Bool
shares_runs rows = is_some (one_of (codes "workers") rows) && not (given (codes "PROGRAM") rows == 0)

-- the options of runs that don't go together: --runs with --steps, or --workers without --runs
abbrev pub runs_misfit : List Row → Option Misfit
runs_misfit rows = if is_some (runs_of rows) && not (given (codes "steps") rows == 0) then Some RunsWithSteps
    else (if shares_runs rows && not (is_some (runs_of rows)) then Some WorkersWithoutRuns else None)

-- a text with a space at its end, unless it is empty
abbrev pub with_space : Text → Text
with_space [] = []
with_space (b ∷ text) = (b ∷ text) ++ 32 ∷ []

-- a text, and texts after it, with spaces between them
abbrev pub joined_from : Text → List Text → Text
joined_from text [] = text
joined_from text (next ∷ texts) = joined_from (with_space text ++ next) texts

-- --all of make
abbrev pub cycles_of : List Row → Option ℕ
cycles_of rows = option_map number_written (one_of (codes "cycles") rows)

-- the words are those of make: no other command has an entry for this flag
abbrev pub makes : List Row → Bool
makes rows = is_some (first_of (codes "forbidden") rows)

-- the options of make that don't go together: a cycle with --all, neither, or --forbidden without --all
abbrev pub make_misfit : List Row → Option Misfit
make_misfit rows =
    if is_some (cycles_of rows) && not (given (codes "WORD") rows == 0) then Some CycleWithAll
    else (if makes rows && not (is_some (cycles_of rows)) && (given (codes "WORD") rows == 0) then Some NoCycle
    else (if is_given (codes "forbidden") rows && not (is_some (cycles_of rows)) then Some ForbiddenWithoutAll
    else None))

-- what doesn't go together with --long: --complete, --reduce, --workers but of survey, or --program
abbrev pub long_misfit : List Row → Option Misfit
long_misfit rows =
    if is_given (codes "long") rows && is_given (codes "complete") rows then Some CompleteWithLong
    else (if is_given (codes "long") rows && is_given (codes "reduce") rows then Some ReduceWithLong
    else (if is_given (codes "long") rows && is_some (one_of (codes "workers") rows) && not (surveys_recordings rows)
    then Some WorkersWithLong
    else (if is_given (codes "long") rows && not (given (codes "program") rows == 0) then Some ProgramWithLong
    else None)))

-- the options that don't go together: --each or --header with --show, or --reduce without it, or those of survey, of
-- outcomes, of runs, of make or with --long
abbrev pub misfit_of : List Row → Option Misfit
misfit_of rows = if is_some (show_of rows) && is_given (codes "each") rows then Some EachWithShow
    else (if is_some (show_of rows) && is_given (codes "header") rows then Some HeaderWithShow
    else (if not (is_some (show_of rows)) && is_given (codes "reduce") rows then Some ReduceWithoutShow
    else option_or (survey_misfit rows) (option_or (question_misfit rows)
    (option_or (runs_misfit rows) (option_or (make_misfit rows) (long_misfit rows))))))

-- the entry, where there is one, is a number of 64 bits
abbrev pub HasNumber : Text → List Row → Type 0
HasNumber id rows = IfSome (one_of id rows) (IsUnsignedIn 0 18446744073709551615)

-- there is an entry
abbrev pub HasText : Text → List Row → Type 0
HasText id rows = first_of id rows ≢ None

-- the entry says whether the words have the flag; where there is none, they don't
abbrev pub HasFlag : Text → List Row → Type 0
HasFlag id rows = unwrap_or (one_of id rows) (codes "false") ≡ bool_text (is_given id rows)

abbrev pub is_number : Takes → Bool
is_number takes.Number = true
is_number takes.Most = true
is_number takes.Size = true
is_number _ = false

abbrev pub is_flag : Takes → Bool
is_flag takes.Nothing = true
is_flag _ = false

abbrev pub is_required : Takes → Bool
is_required takes.Place = true
is_required takes.Places = true
is_required takes.Size = true
is_required _ = false

-- one of these arguments and options has this name and passes the test
abbrev pub has_option : (Takes → Bool) → Text → List (Text × Takes) → Bool
has_option test id options = list_any (λ o. test o.1 && bytes_eq o.0 id) options

-- one of some command does
abbrev pub is_option : (Takes → Bool) → Text → Bool
is_option test id = list_any (λ c. has_option test id c.1) commands

-- the entries, whatever the command: a number's is a number, and a flag's is the words'
pub record AreEntries (rows : List Row) : Type 0 where
  pub numbers : (id : Text) → is_option is_number id ≡ true → HasNumber id rows
  pub flags : (id : Text) → is_option is_flag id ≡ true → HasFlag id rows

-- the row of the command with this name
abbrev pub row_named : Text → Option (Text × List (Text × Takes))
row_named name = find (λ c. bytes_eq c.0 name) commands

-- the arguments and options of the command with this name
abbrev pub options_of : Text → List (Text × Takes)
options_of name = option_map_or (λ c. c.1) (row_named name) []

-- no command has this name
abbrev pub NoneNamed : Text → List (Text × List (Text × Takes)) → Type 0
NoneNamed name [] = ⊤
NoneNamed name (c ∷ cs) = (name ≢ c.0) × NoneNamed name cs

-- what was read is one of the commands, with the entries that it requires
pub record HasEntries (command : Text × List Row) : Type 0 where
  pub known : NoneNamed command.0 commands → ⊥
  pub given : (id : Text) → has_option is_required id (options_of command.0) ≡ true → HasText id command.1
  pub entries : AreEntries command.1
