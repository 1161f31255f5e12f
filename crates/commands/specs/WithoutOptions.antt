-- What is answered where the words give no options.
use Rattle.std.specs.Prelude.{◌≡◌, ◌≢◌, Result, Ok, Err, string_bytes, ⊤}
use Rattle.clap.specs.Words.{kind_of}
use Rattle.clap.specs.declared.error.Error.{Error}
use Rattle.clap.specs.declared.error.kind.ErrorKind.TheVariants.{DisplayHelp, DisplayVersion}
use Rattle.verdicts.specs.declared.printed.Answer.{Answer}
use Rattle.verdicts.specs.declared.outcome.Outcome.TheVariants.{Done}
use Rattle.inputs.specs.declared.command_stop.CommandStop.{CommandStop}
use Rattle.inputs.specs.declared.command_stop.CommandStop.TheVariants.{Refused, Failed}
use Rattle.inputs.specs.declared.command_error.CommandError.TheVariants.{CommandLine}
use Rattle.inputs.specs.declared.command_error.CommandError.TheVariants as error
use Rattle.command_line.specs.declared.options.OptionStop.{OptionStop}
use Rattle.command_line.specs.declared.options.OptionStop.TheVariants.{Clap}
use Rattle.command_line.specs.declared.options.OptionStop.TheVariants as refused
use Rattle.refusals.specs.Meanings.{meaning, meanings}
use Rattle.refusals.specs.Table.{texts_of}
use Rattle.commands.specs.OptionRefusals.{option_line}

-- what clap says goes to standard error: it is neither help nor the version
abbrev pub IsMistake : Error → Type 0
IsMistake error = (kind_of error ≢ DisplayHelp) × (kind_of error ≢ DisplayVersion)

-- without options help was asked for, whose text no clause says, or what refusals mean, or there is a line of refusal,
-- which is that of the options, or an error: what clap says, or standard input that is named twice, or options that
-- don't go together
abbrev pub IsWithoutOptions : OptionStop → Result Answer CommandStop → Type 0
IsWithoutOptions (Clap error) (Ok answer) = (answer.outcome ≡ Done) × (IsMistake error → ⊥)
IsWithoutOptions refused.RefusalMeanings (Ok answer) = (answer.outcome ≡ Done)
    × (answer.text.items ≡ meanings)
IsWithoutOptions (refused.RefusalMeaning refusal) (Ok answer) = (answer.outcome ≡ Done)
    × (answer.text.items ≡ meaning (texts_of refusal))
IsWithoutOptions (refused.Refused refusal) (Err (Refused printed)) = string_bytes printed.line ≡ option_line refusal
IsWithoutOptions (Clap error) (Err (Failed (CommandLine said))) = (said ≡ error) × IsMistake error
IsWithoutOptions refused.StandardInputTwice (Err (Failed error.StandardInputTwice)) = ⊤
IsWithoutOptions (refused.Misfit misfit) (Err (Failed (error.Misfit said))) = said ≡ misfit
IsWithoutOptions other (Err (Failed error.OutOfMemory)) = ⊤
IsWithoutOptions other answered = ⊥
