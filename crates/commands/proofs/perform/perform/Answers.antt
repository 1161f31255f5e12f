use Rattle.std.proofs.Common.{inl, inr, map, string_bytes}
use Rattle.std.proofs.lemmas.Result.{IfErr-weaker}
use Rattle.commands.specs.Perform.{world}
use Rattle.inputs.proofs.Asking.{read_none}
use Rattle.commands.proofs.Printed.{output_written, unwritten_more}
use Rattle.commands.proofs.perform.perform.Goals as goal

pub returns-in-Ok-clause-written : goal.returns-in-Ok-clause-written
returns-in-Ok-clause-written g c = c.perform_options.ensures.written (map string_bytes c.args.words.now) c.in-Ok.ensures.ok

pub returns-in-Ok-clause-error : goal.returns-in-Ok-clause-error
returns-in-Ok-clause-error g c = IfErr-weaker c.perform_options.result _ _
    (λ error is. inl (c.in-Ok.options, c.in-Ok.ensures.ok, is)) c.perform_options.ensures.error

pub returns-in-Ok-clause-unwritten : goal.returns-in-Ok-clause-unwritten
returns-in-Ok-clause-unwritten g c = unwritten_more c.perform_options.result _ _ _
    (λ at_once early. at_once c.in-Ok.options c.in-Ok.ensures.ok early) c.perform_options.ensures.unwritten

pub returns-in_ok-output-in-Err-clause-written : goal.returns-in_ok-output-in-Err-clause-written
returns-in_ok-output-in-Err-clause-written g c =
    let log = g.H.Host.log c.args.host.now in
    output_written _ (map string_bytes c.args.words.now) (world log (g.W.Sink.written c.args.out.now)) log _ _
    c.in_ok-output-in-Err.output c.write_output.result c.in_ok-output-in-Err.ensures.log (
      c.without_options.result,
      inr (c.in-Err.stop, c.in-Err.ensures.err, c.without_options.ensures, read_none log),
      c.in_ok-output-in-Err.ensures.ok,
    )
    c.write_output.ensures.written
