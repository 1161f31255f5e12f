use Rattle.std.proofs.Common.{◌∷◌, []}
use Rattle.std.specs.Prelude.{string_bytes}
use Rattle.inputs.specs.declared.command_stop.CommandStop.TheVariants.{Failed}
use Rattle.inputs.proofs.Asking.{memory_stopped, read_then, reads_then, stopped_again}
use Rattle.commands.proofs.verify_command.verify_command.Goals as goal

pub returns-in_err-recording-clause-reads : goal.returns-in_err-recording-clause-reads
returns-in_err-recording-clause-reads g c =
    stopped_again c.from_residual.result (string_bytes c.args.options.now.recording ∷ [])
    (string_bytes c.args.options.now.verdict ∷ []) c.in_err-recording.field-0.0 _ _
    (rw c.as_str.ensures.value at c.in_err-recording.ensures.reads) c.from_residual.ensures.1

pub returns-in_err-text-clause-reads : goal.returns-in_err-text-clause-reads
returns-in_err-text-clause-reads g c =
    reads_then c.from_residual-in_err-text.result (string_bytes c.args.options.now.recording ∷ [])
    (string_bytes c.args.options.now.verdict ∷ []) _ _ _
    (rw c.as_str.ensures.value at c.in_ok-recording.ensures.reads)
    (stopped_again c.from_residual-in_err-text.result (string_bytes c.args.options.now.verdict ∷ []) []
    (Failed c.in_err-text.field-0.0) _ _ (rw c.as_str-2.ensures.value at c.in_err-text.ensures.reads)
    c.from_residual-in_err-text.ensures.1)

pub returns-clause-reads : goal.returns-clause-reads
returns-clause-reads g c =
    read_then (string_bytes c.args.options.now.recording ∷ []) (string_bytes c.args.options.now.verdict ∷ [])
    (g.H.Host.log c.args.host.now) (g.H.Host.log c.recording_at.new.host) (g.H.Host.log c.text_at.new.host)
    (rw c.as_str.ensures.value at c.in_ok-recording.ensures.reads)
    (rw c.as_str-2.ensures.value at c.in_ok-text.ensures.reads)

pub returns-in_err-text_answer-clause-reads : goal.returns-in_err-text_answer-clause-reads
returns-in_err-text_answer-clause-reads g c = memory_stopped c.from_residual-in_err-text_answer.result _ _ _
    (read_then (string_bytes c.args.options.now.recording ∷ []) (string_bytes c.args.options.now.verdict ∷ [])
    (g.H.Host.log c.args.host.now) (g.H.Host.log c.recording_at.new.host) (g.H.Host.log c.text_at.new.host)
    (rw c.as_str.ensures.value at c.in_ok-recording.ensures.reads)
    (rw c.as_str-2.ensures.value at c.in_ok-text.ensures.reads)) c.from_residual-in_err-text_answer.ensures.1

pub text_answer-requires : goal.text_answer-requires
text_answer-requires g c = (c.type_bounds.sync-R, c.in_ok-recording.ensures.ok.read.3)
