use Rattle.std.proofs.Common.{◌∷◌, ◌++◌, [], ℕ, List}
use Rattle.std.specs.Prelude.{option_map, string_bytes}
use Rattle.command_line.specs.declared.options.ExplainOptions.{ExplainOptions}
use Rattle.commands.specs.Command.{maybe_name}
use Rattle.inputs.proofs.Asking.{memory_stopped, read_then, reads_then, stopped_again, stopped_last}
use Rattle.commands.proofs.render_command.render_command.Goals as goal

-- the names of the recording, of the program and of the labels
abbrev file_name : ExplainOptions → List (List ℕ)
file_name o = string_bytes o.file ∷ []

abbrev program_names : ExplainOptions → List (List ℕ)
program_names o = maybe_name (option_map string_bytes o.program)

abbrev labels_names : ExplainOptions → List (List ℕ)
labels_names o = maybe_name (option_map string_bytes o.labels)

pub returns-in_err-recording-clause-reads : goal.returns-in_err-recording-clause-reads
returns-in_err-recording-clause-reads g c = let o = c.args.options.now in
    stopped_again c.from_residual.result (file_name o) (program_names o ++ labels_names o) c.in_err-recording.field-0.0
    _ _ (rw c.as_str.ensures.value at c.in_err-recording.ensures.reads) c.from_residual.ensures.1

pub returns-in_err-program-clause-reads : goal.returns-in_err-program-clause-reads
returns-in_err-program-clause-reads g c = let o = c.args.options.now in
    reads_then c.from_residual-in_err-program.result (file_name o) (program_names o ++ labels_names o) _ _ _
    (rw c.as_str.ensures.value at c.in_ok-recording.ensures.reads)
    (stopped_again c.from_residual-in_err-program.result (program_names o) (labels_names o) c.in_err-program.field-0.0
    _ _ c.in_err-program.ensures.reads c.from_residual-in_err-program.ensures.1)

pub returns-in_err-labels-clause-reads : goal.returns-in_err-labels-clause-reads
returns-in_err-labels-clause-reads g c = let o = c.args.options.now in
    reads_then c.from_residual-in_err-labels.result (file_name o) (program_names o ++ labels_names o) _ _ _
    (rw c.as_str.ensures.value at c.in_ok-recording.ensures.reads)
    (reads_then c.from_residual-in_err-labels.result (program_names o) (labels_names o) _ _ _
    c.in_ok-program.ensures.reads
    (stopped_last c.from_residual-in_err-labels.result (labels_names o) c.in_err-labels.field-0.0 _ _
    c.in_err-labels.ensures.reads c.from_residual-in_err-labels.ensures.1))

pub returns-in_err-render-clause-reads : goal.returns-in_err-render-clause-reads
returns-in_err-render-clause-reads g c = let o = c.args.options.now in
    memory_stopped c.from_residual-in_err-render.result _ _ _
    (read_then (file_name o) (program_names o ++ labels_names o) (g.H.Host.log c.args.host.now)
    (g.H.Host.log c.recording_at.new.host) (g.H.Host.log c.labels_given.new.host)
    (rw c.as_str.ensures.value at c.in_ok-recording.ensures.reads)
    (read_then (program_names o) (labels_names o) (g.H.Host.log c.recording_at.new.host)
    (g.H.Host.log c.program_given.new.host) (g.H.Host.log c.labels_given.new.host)
    c.in_ok-program.ensures.reads c.in_ok-labels.ensures.reads)) c.from_residual-in_err-render.ensures.1

pub returns-clause-reads : goal.returns-clause-reads
returns-clause-reads g c = let o = c.args.options.now in
    read_then (file_name o) (program_names o ++ labels_names o) (g.H.Host.log c.args.host.now)
    (g.H.Host.log c.recording_at.new.host) (g.H.Host.log c.labels_given.new.host)
    (rw c.as_str.ensures.value at c.in_ok-recording.ensures.reads)
    (read_then (program_names o) (labels_names o) (g.H.Host.log c.recording_at.new.host)
    (g.H.Host.log c.program_given.new.host) (g.H.Host.log c.labels_given.new.host)
    c.in_ok-program.ensures.reads c.in_ok-labels.ensures.reads)

pub render-requires-clause-within : goal.render-requires-clause-within
render-requires-clause-within g c = c.in_ok-recording.ensures.ok.read.3
