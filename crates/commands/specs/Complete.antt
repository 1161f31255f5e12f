-- What complete answers.
use Rattle.std.specs.Prelude.{ℕ, List, Option, string_bytes}
use Rattle.command_line.specs.declared.options.CompleteOptions.{CompleteOptions}
use Rattle.verdicts.specs.declared.printed.Answer.{Answer}
use Rattle.program_answers.specs.Completion.{IsCompletionAnswer}
use Rattle.inputs.specs.Named.{OfValues}
use Rattle.inputs.specs.Inputs.{Inputs}

-- the values of the named input are completed, or are impossible, or it is `unfinished`
abbrev pub IsCompletedInput : Inputs → CompleteOptions → Answer → Type 0
IsCompletedInput inputs o answer = OfValues inputs (string_bytes o.file) (λ v. IsCompletionAnswer v o.states answer)
