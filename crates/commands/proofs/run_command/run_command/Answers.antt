use Rattle.std.proofs.Common.{◌≡◌, ◌∷◌, [], ap}
use Rattle.std.specs.Prelude.{option_map, string_bytes}
use Rattle.commands.specs.Command.{maybe_name, script_name}
use Rattle.inputs.proofs.Asking.{reads_then, stopped_again}
use Rattle.commands.proofs.run_command.run_command.Goals as goal

pub returns-in_err-program-clause-reads : goal.returns-in_err-program-clause-reads
returns-in_err-program-clause-reads g c =
    stopped_again c.from_residual.result (string_bytes c.args.options.now.program ∷ [])
    (maybe_name (script_name c.args.options.now.runs (option_map string_bytes c.args.options.now.steps))) c.in_err-program.field-0.0 _ _
    (rw c.as_str.ensures.value at c.in_err-program.ensures.reads) c.from_residual.ensures.1

pub returns-in-None-Some-clause-reads : goal.returns-in-None-Some-clause-reads
returns-in-None-Some-clause-reads g c =
    let named : maybe_name (script_name c.args.options.now.runs (option_map string_bytes c.args.options.now.steps))
    ≡ string_bytes c.in-None-Some.name ∷ [] =
    rw c.in-None-Some.is-0 (ap (λ s. maybe_name (option_map string_bytes s)) c.in-None-Some.is-1) in
    rw named (reads_then c.script_run.result (string_bytes c.args.options.now.program ∷ [])
    (string_bytes c.in-None-Some.name ∷ []) _ _ _ (rw c.as_str.ensures.value at c.in_ok-program.ensures.reads)
    (rw c.as_str-in-None-Some.ensures.value at c.script_run.ensures.reads))
