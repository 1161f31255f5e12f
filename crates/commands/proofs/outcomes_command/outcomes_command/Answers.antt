use Rattle.std.proofs.Common.{◌∷◌, []}
use Rattle.std.specs.Prelude.{string_bytes}
use Rattle.commands.specs.Outcomes.{question_names}
use Rattle.inputs.proofs.Asking.{reads_then, stopped_again}
use Rattle.commands.proofs.outcomes_command.outcomes_command.Goals as goal

pub returns-in_err-program-clause-reads : goal.returns-in_err-program-clause-reads
returns-in_err-program-clause-reads g c =
    stopped_again c.from_residual.result (string_bytes c.args.options.now.program ∷ [])
    (question_names c.args.options.now.question) c.in_err-program.field-0.0 _ _
    (rw c.as_str.ensures.value at c.in_err-program.ensures.reads) c.from_residual.ensures.1

pub returns-clause-reads : goal.returns-clause-reads
returns-clause-reads g c =
    reads_then c.question_answer.result (string_bytes c.args.options.now.program ∷ [])
    (question_names c.args.options.now.question) _ _ _
    (rw c.as_str.ensures.value at c.in_ok-program.ensures.reads) c.question_answer.ensures.reads
