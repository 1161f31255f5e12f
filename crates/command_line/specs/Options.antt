-- The options that the words ask for.
use Rattle.std.specs.Prelude.{◌≡◌, ◌≢◌, ◌≤◌, ◌<◌, ◌+◌, ◌%◌, ◌^◌, ℕ, List, Option, Some, None, IfSome, Ok, false, ⊤}
use Rattle.std.specs.Prelude.{codes, true, IsSomeAnd, if◌then◌else◌, is_some, length, map, option_map, string_bytes, []}
use Rattle.recording.specs.declared.size.RecordingSize.{RecordingSize}
use Rattle.recording.specs.declared.size.RecordingSize.TheVariants.{Long, Short}
use Rattle.clap.specs.Takes.{is_given}
use Rattle.clap.specs.Words.{IsAmong, Row, Text, fault_of, first_of, kind_of, takes, all_of, one_of, subcommand_rows_of}
use Rattle.clap.specs.declared.error.Error.{Error}
use Rattle.clap.specs.declared.error.kind.ErrorKind.TheVariants as kinds
use Rattle.command_line.specs.declared.options.Limits.{Limits}
use Rattle.command_line.specs.declared.options.Options.{Options}
use Rattle.command_line.specs.declared.options.Options.TheVariants.{Run, Judge, JudgeLong, Trials, Live, Replay}
use Rattle.command_line.specs.declared.options.Options.TheVariants.{Explain, Draw, Reduce}
use Rattle.command_line.specs.declared.options.Options.TheVariants.{Verify, Survey, Merge, Outcomes, Complete, Make}
use Rattle.command_line.specs.declared.options.OutcomesOptions.{OutcomesOptions}
use Rattle.command_line.specs.declared.options.CompleteOptions.{CompleteOptions}
use Rattle.command_line.specs.declared.options.MakeOptions.{MakeOptions}
use Rattle.command_line.specs.declared.options.MakeOptions.TheVariants.{Cycle, All as Cycles}
use Rattle.command_line.specs.declared.options.Question.{Question}
use Rattle.command_line.specs.declared.options.Question.TheVariants.{All, Observed, Exists, Never, Show}
use Rattle.command_line.specs.declared.options.VerifyOptions.{VerifyOptions}
use Rattle.command_line.specs.declared.options.SurveyOptions.{SurveyOptions}
use Rattle.command_line.specs.declared.options.MergeOptions.{MergeOptions}
use Rattle.command_line.specs.declared.options.RunOptions.{RunOptions}
use Rattle.command_line.specs.declared.options.JudgeOptions.{JudgeOptions}
use Rattle.command_line.specs.declared.options.TrialsOptions.{TrialsOptions}
use Rattle.command_line.specs.declared.options.LiveOptions.{LiveOptions}
use Rattle.command_line.specs.declared.options.FileOptions.{FileOptions}
use Rattle.command_line.specs.declared.options.DrawOptions.{DrawOptions}
use Rattle.command_line.specs.declared.options.ExplainOptions.{ExplainOptions}
use Rattle.command_line.specs.declared.options.OptionStop.{OptionStop}
use Rattle.command_line.specs.declared.options.OptionStop.TheVariants.{Clap, RefusalMeaning, RefusalMeanings}
use Rattle.command_line.specs.declared.options.OptionStop.TheVariants.{StandardInputTwice, Misfit, Refused, OutOfMemory}
use Rattle.command_line.specs.declared.options.TheConstants.{ATTEMPTS, BUFFER, DEFAULT_SEED, FROM, LIMIT, LINES, TRIALS}
use Rattle.command_line.specs.declared.options.TheConstants.{CYCLES, RUNS, STATES, WORKERS}
use Rattle.command_line.specs.declared.counts.Counts.{Counts}
use Rattle.command_line.specs.declared.flags.Flags.{Flags}
use Rattle.command_line.specs.declared.values.Values.{Values}
use Rattle.command_line.specs.Commands.{HaveNoMistake, command_of, program_app}
use Rattle.command_line.specs.Entries.{HasEntries, machine_fault_of, misfit_of, names_standard_input_twice, cycles_of}
use Rattle.command_line.specs.Entries.{joined_from, names_given, number_of, number_or, number_written, show_of}
use Rattle.refusals.specs.Table.{texts_of}
use Rattle.command_line.specs.Meanings.{asks_of_refusals, refusal_asked}
use Rattle.clap.specs.declared.parser.matches.ArgMatches.{ArgMatches}
use Rattle.command_line.specs.Refusals.{refusal_of, shape_asked}
use Rattle.command_line.specs.Shards.{part_asked}
use Rattle.program.specs.declared.shard.Part.{Part}

-- n is the number that is asked for, from 1 to the limit
pub record IsInRange (limit asked n : ℕ) : Type 0 where
  pub is_asked : n ≡ asked
  pub least : 1 ≤ n
  pub most : n ≤ limit

-- n is the number of an option, within its limits
abbrev pub IsNumber : Text → Limits → List Row → ℕ → Type 0
IsNumber id limits rows n = IsInRange limits.most (number_of id limits rows) n

-- the seed that the entries ask for
abbrev pub seed_of : List Row → ℕ
seed_of rows = number_or DEFAULT_SEED (one_of (codes "seed") rows)

-- the number of an option, within its limits, if it is asked for
abbrev pub MayBeNumber : Text → Limits → Option ℕ → List Row → Type 0
MayBeNumber id limits asked rows =
    (asked ≡ option_map number_written (one_of id rows)) × IfSome asked (IsNumber id limits rows)

-- how many lines are asked for, if this is asked for
abbrev pub AreLines : Option ℕ → List Row → Type 0
AreLines lines rows = MayBeNumber (codes "lines") LINES lines rows

-- how many runs are asked for, if this is asked for
abbrev pub AreRuns : Option ℕ → List Row → Type 0
AreRuns runs rows = MayBeNumber (codes "runs") RUNS runs rows

-- each count is its entry, or else its default; none is refused
pub record AreCountsAsked (v : Counts) (rows : List Row) : Type 0 where
  pub states : IsNumber (codes "states") STATES rows v.states
  pub runs : AreRuns v.runs rows
  pub cycles : MayBeNumber (codes "cycles") CYCLES v.cycles rows
  pub from : IsNumber (codes "from") FROM rows v.from
  pub lines : AreLines v.lines rows

-- each flag says whether the words have it
pub record AreFlagsAsked (v : Flags) (rows : List Row) : Type 0 where
  pub reduce : v.reduce ≡ is_given (codes "reduce") rows
  pub header : v.header ≡ is_given (codes "header") rows
  pub partial : v.partial ≡ is_given (codes "partial") rows
  pub quiet : v.quiet ≡ is_given (codes "quiet") rows
  pub all : v.all ≡ is_given (codes "all") rows
  pub each : v.each ≡ is_given (codes "each") rows
  pub complete : v.complete ≡ is_given (codes "complete") rows
  pub unseen : v.unseen ≡ is_given (codes "unseen") rows
  pub why : v.why ≡ is_given (codes "why") rows
  pub long : v.long ≡ is_given (codes "long") rows
  pub forbidden : v.forbidden ≡ is_given (codes "forbidden") rows

-- each number, the fault and each flag is its entry, or else its default; none is refused
pub record AreValuesAsked (v : Values) (rows : List Row) : Type 0 where
  pub shape : shape_asked rows ≡ option_map Ok v.shape
  pub seed : v.seed ≡ seed_of rows
  pub part : part_asked rows ≡ Some v.part
  pub trials : IsInRange TRIALS.most v.part.trials v.part.trials
  pub attempts : IsNumber (codes "attempts") ATTEMPTS rows v.attempts
  pub limit : IsNumber (codes "limit") LIMIT rows v.limit
  pub buffer : IsNumber (codes "buffer") BUFFER rows v.buffer
  pub workers : IsNumber (codes "workers") WORKERS rows v.workers
  pub fault : machine_fault_of rows ≡ Some v.fault
  pub show : v.show ≡ show_of rows
  pub shown : is_some v.shape ≡ true → IfSome v.show (λ k. k < v.part.trials)
  pub counts : AreCountsAsked v.counts rows
  pub flags : AreFlagsAsked v.flags rows

-- each option of run is its entry, or else its default
pub record AreRunOptions (o : RunOptions) (rows : List Row) : Type 0 where
  pub program : first_of (codes "PROGRAM") rows ≡ Some (string_bytes o.program)
  pub steps : first_of (codes "steps") rows ≡ option_map string_bytes o.steps
  pub seed : o.seed ≡ seed_of rows
  pub attempts : IsNumber (codes "attempts") ATTEMPTS rows o.attempts
  pub buffer : IsNumber (codes "buffer") BUFFER rows o.buffer
  pub fault : machine_fault_of rows ≡ Some o.fault
  pub runs : AreRuns o.runs rows
  pub workers : IsNumber (codes "workers") WORKERS rows o.workers

-- each option of judge without --long is its entry, or else its default
pub record AreJudgeOptions (o : JudgeOptions) (rows : List Row) : Type 0 where
  pub short : is_given (codes "long") rows ≡ false
  pub file : first_of (codes "FILE") rows ≡ Some (string_bytes o.file)
  pub workers : IsNumber (codes "workers") WORKERS rows o.workers

-- the trials are those of a part of a campaign whose first seed is this; seeds are numbers of 64 bits
pub record AreTrialsOf (part : Part) (seed base trials : ℕ) : Type 0 where
  pub first : base ≡ (seed + part.first) % 2 ^ 64
  pub number : trials ≡ part.trials

-- the trials are those that are asked for: all, or those of a shard
abbrev pub AreTrialsAsked : ℕ → ℕ → List Row → Type 0
AreTrialsAsked base trials rows = IsSomeAnd (part_asked rows) (λ part. AreTrialsOf part (seed_of rows) base trials)

-- each option of trials is its entry, or else its default; the sizes make the shape
pub record AreTrialsOptions (o : TrialsOptions) (rows : List Row) : Type 0 where
  pub shape : shape_asked rows ≡ Some (Ok o.campaign.shape)
  pub trials : AreTrialsAsked o.campaign.base o.campaign.trials rows
  pub within : IsInRange TRIALS.most o.campaign.trials o.campaign.trials
  pub attempts : IsNumber (codes "attempts") ATTEMPTS rows o.campaign.attempts
  pub buffer : IsNumber (codes "buffer") BUFFER rows o.campaign.capacity
  pub fault : machine_fault_of rows ≡ Some o.campaign.fault
  pub workers : IsNumber (codes "workers") WORKERS rows o.workers
  pub show : o.show ≡ show_of rows
  pub shown : IfSome o.show (λ k. k < o.campaign.trials)
  pub reduce : o.reduce ≡ is_given (codes "reduce") rows
  pub header : o.header ≡ is_given (codes "header") rows
  pub quiet : o.quiet ≡ is_given (codes "quiet") rows

-- each option of live is its entry, or else its default
pub record AreLiveOptions (o : LiveOptions) (rows : List Row) : Type 0 where
  pub program : first_of (codes "PROGRAM") rows ≡ Some (string_bytes o.program)
  pub buffer : IsNumber (codes "buffer") BUFFER rows o.buffer
  pub limit : IsNumber (codes "limit") LIMIT rows o.limit
  pub runs : AreRuns o.runs rows

-- the file is its entry
abbrev pub AreFileOptions : FileOptions → List Row → Type 0
AreFileOptions o rows = first_of (codes "FILE") rows ≡ Some (string_bytes o.file)

-- the size of the recordings that are taken
abbrev pub size_asked : List Row → RecordingSize
size_asked rows = if is_given (codes "long") rows then Long else Short

-- the file is its entry, and so are the program and the labels, where there are any
pub record AreExplainOptions (o : ExplainOptions) (rows : List Row) : Type 0 where
  pub file : first_of (codes "FILE") rows ≡ Some (string_bytes o.file)
  pub size : o.size ≡ size_asked rows
  pub program : first_of (codes "program") rows ≡ option_map string_bytes o.program
  pub labels : first_of (codes "labels") rows ≡ option_map string_bytes o.labels

-- the recording is that of its entries, and all events are drawn where the words have --all
pub record AreDrawOptions (o : DrawOptions) (rows : List Row) : Type 0 where
  pub recording : AreExplainOptions o.recording rows
  pub all : o.all ≡ is_given (codes "all") rows

-- each option of verify is its entry, or else its default
pub record AreVerifyOptions (o : VerifyOptions) (rows : List Row) : Type 0 where
  pub recording : first_of (codes "RECORDING") rows ≡ Some (string_bytes o.recording)
  pub verdict : first_of (codes "VERDICT") rows ≡ Some (string_bytes o.verdict)
  pub size : o.size ≡ size_asked rows
  pub workers : IsNumber (codes "workers") WORKERS rows o.workers

-- lines are completed, where this many states are looked at at most for each, or they are not
abbrev pub IsCompletionAsked : Option ℕ → List Row → Type 0
IsCompletionAsked None rows = is_given (codes "complete") rows ≡ false
IsCompletionAsked (Some states) rows = (is_given (codes "complete") rows ≡ true)
    × IsNumber (codes "states") STATES rows states

-- each option of survey is its entry, or else its default
pub record AreSurveyOptions (o : SurveyOptions) (rows : List Row) : Type 0 where
  pub file : first_of (codes "FILE") rows ≡ Some (string_bytes o.file)
  pub each : o.each ≡ is_given (codes "each") rows
  pub show : o.show ≡ show_of rows
  pub reduce : o.reduce ≡ is_given (codes "reduce") rows
  pub workers : IsNumber (codes "workers") WORKERS rows o.workers
  pub quiet : o.quiet ≡ is_given (codes "quiet") rows
  pub long : o.long ≡ is_given (codes "long") rows
  pub complete : IsCompletionAsked o.complete rows
  pub from : IsNumber (codes "from") FROM rows o.from
  pub lines : AreLines o.lines rows
  pub header : o.header ≡ is_given (codes "header") rows

-- the names are those of the entry, one at least, and some may be missing where the words have --partial
pub record AreMergeOptions (o : MergeOptions) (rows : List Row) : Type 0 where
  pub files : all_of (codes "FILE") rows ≡ Some (map string_bytes o.files.items)
  pub some : 0 < length o.files.items
  pub partial : o.partial ≡ is_given (codes "partial") rows

-- the question of the entries, of which one at most asks
abbrev pub IsQuestion : Question → List Row → Type 0
IsQuestion All rows = (first_of (codes "observed") rows ≡ None) × (first_of (codes "exists") rows ≡ None)
    × (first_of (codes "never") rows ≡ None) × (first_of (codes "items") rows ≡ None)
IsQuestion (Observed file unseen why) rows = (first_of (codes "observed") rows ≡ Some (string_bytes file))
    × (unseen ≡ is_given (codes "unseen") rows) × (why ≡ is_given (codes "why") rows)
IsQuestion (Exists items) rows = first_of (codes "exists") rows ≡ Some (string_bytes items)
IsQuestion (Never items) rows = first_of (codes "never") rows ≡ Some (string_bytes items)
IsQuestion (Show items) rows = first_of (codes "items") rows ≡ Some (string_bytes items)

-- each option of outcomes is its entry, or else its default
pub record AreOutcomesOptions (o : OutcomesOptions) (rows : List Row) : Type 0 where
  pub program : first_of (codes "PROGRAM") rows ≡ Some (string_bytes o.program)
  pub question : IsQuestion o.question rows
  pub states : IsNumber (codes "states") STATES rows o.states

-- each option of complete is its entry, or else its default
pub record AreCompleteOptions (o : CompleteOptions) (rows : List Row) : Type 0 where
  pub file : first_of (codes "FILE") rows ≡ Some (string_bytes o.file)
  pub states : IsNumber (codes "states") STATES rows o.states

-- the words of a cycle are those of the entry, with spaces between them; or each option of a list is its entry
abbrev pub AreMakeOptions : MakeOptions → List Row → Type 0
AreMakeOptions (Cycle words) rows = (cycles_of rows ≡ None)
    × (string_bytes words ≡ joined_from [] (names_given (codes "WORD") rows))
AreMakeOptions (Cycles events forbidden) rows = (cycles_of rows ≡ Some events)
    × IsNumber (codes "cycles") CYCLES rows events × (forbidden ≡ is_given (codes "forbidden") rows)

-- the options are those of the command with this name
abbrev pub AreOptionsOf : Options → Text → List Row → Type 0
AreOptionsOf (Run o) name rows = (name ≡ codes "run") × AreRunOptions o rows
AreOptionsOf (Judge o) name rows = (name ≡ codes "judge") × AreJudgeOptions o rows
AreOptionsOf (JudgeLong o) name rows = (name ≡ codes "judge") × AreFileOptions o rows
    × (is_given (codes "long") rows ≡ true)
AreOptionsOf (Trials o) name rows = (name ≡ codes "trials") × AreTrialsOptions o rows
AreOptionsOf (Live o) name rows = (name ≡ codes "live") × AreLiveOptions o rows
AreOptionsOf (Replay o) name rows = (name ≡ codes "replay") × AreFileOptions o rows
AreOptionsOf (Explain o) name rows = (name ≡ codes "explain") × AreExplainOptions o rows
AreOptionsOf (Draw o) name rows = (name ≡ codes "draw") × AreDrawOptions o rows
AreOptionsOf (Reduce o) name rows = (name ≡ codes "reduce") × AreExplainOptions o rows
AreOptionsOf (Verify o) name rows = (name ≡ codes "verify") × AreVerifyOptions o rows
AreOptionsOf (Survey o) name rows = (name ≡ codes "survey") × AreSurveyOptions o rows
AreOptionsOf (Merge o) name rows = (name ≡ codes "merge") × AreMergeOptions o rows
AreOptionsOf (Outcomes o) name rows = (name ≡ codes "outcomes") × AreOutcomesOptions o rows
AreOptionsOf (Complete o) name rows = (name ≡ codes "complete") × AreCompleteOptions o rows
AreOptionsOf (Make o) name rows = (name ≡ codes "make") × AreMakeOptions o rows

-- the options are those of the command that was read, whose inputs are not both standard input; they go together, and
-- no entry is refused
abbrev pub AreOptions : Options → Option (Text × List Row) → Type 0
AreOptions o None = ⊥
AreOptions o (Some command) = (names_standard_input_twice command.1 ≡ false) × (misfit_of command.1 ≡ None)
    × (refusal_of command.1 ≡ None) × AreOptionsOf o command.0 command.1

-- why the entries of the command that was read give no options: standard input is named twice, or else some don't go
-- together, or else their first refusal
abbrev pub IsEntryStop : OptionStop → List Row → Type 0
IsEntryStop StandardInputTwice rows = names_standard_input_twice rows ≡ true
IsEntryStop (Misfit misfit) rows = (names_standard_input_twice rows ≡ false) × (misfit_of rows ≡ Some misfit)
IsEntryStop (Refused refusal) rows = (names_standard_input_twice rows ≡ false) × (misfit_of rows ≡ None)
    × (refusal_of rows ≡ Some refusal)
IsEntryStop other rows = ⊥

-- why the command that was read gives no options: its entries, or that memory ran out
abbrev pub IsMatchesStop : OptionStop → Option (Text × List Row) → Type 0
IsMatchesStop OutOfMemory command = ⊤
IsMatchesStop fault None = ⊥
IsMatchesStop fault (Some command) = IsEntryStop fault command.1

-- why the words give no options: they ask what refusals mean, clap finds a fault in them, or it takes them and their
-- entries give none
abbrev pub IsOptionStop : OptionStop → List Text → Type 0
IsOptionStop RefusalMeanings words = asks_of_refusals words ≡ true
IsOptionStop (RefusalMeaning refusal) words = refusal_asked words ≡ Some (texts_of refusal)
IsOptionStop StandardInputTwice words = HaveNoMistake words × IsMatchesStop StandardInputTwice (command_of words)
IsOptionStop (Misfit misfit) words = HaveNoMistake words × IsMatchesStop (Misfit misfit) (command_of words)
IsOptionStop (Clap error) words = (takes program_app words ≡ false)
    × IsAmong (kind_of error) (fault_of program_app words)
IsOptionStop (Refused refusal) words = HaveNoMistake words × IsMatchesStop (Refused refusal) (command_of words)
IsOptionStop OutOfMemory words = ⊤

-- what clap's error is as a fault of the options
abbrev pub IsSaid : Error → OptionStop → Type 0
IsSaid e (Clap error) = (error ≡ e) × (kind_of e ≢ kinds.OutOfMemory)
IsSaid e OutOfMemory = kind_of e ≡ kinds.OutOfMemory
IsSaid e other = ⊥

-- clap takes the words, and m has the command that it reads of them, which has the entries that it requires
pub record AreTaken (words : List Text) (m : ArgMatches) : Type 0 where
  pub faultless : HaveNoMistake words
  pub command : subcommand_rows_of m ≡ command_of words
  pub whole : IsSomeAnd (subcommand_rows_of m) HasEntries
