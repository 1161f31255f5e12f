use Rattle.std.proofs.Common.{inl}
use Rattle.commands.specs.Command.{input_names}
use Rattle.commands.specs.Perform.{world}
use Rattle.commands.proofs.Printed.{answers, each_written, output_written, taken_back, tallied}
use Rattle.commands.proofs.perform.perform_options.Goals as goal

pub returns-in-Some-clause-written : goal.returns-in-Some-clause-written
returns-in-Some-clause-written g c words are =
    let told = c.in-Some.ensures.some in
    each_written (g.H.Host.bytes c.args.host.now) words c.in-Some.survey.now
    (world (g.H.Host.log c.args.host.now) (g.W.Sink.written c.args.out.now))
    (world (g.H.Host.log c.each_command.new.host) (g.W.Sink.written c.each_command.new.out)) c.each_command.result
    (rw told.0 at are) told.1 c.each_command.ensures.whole c.each_command.ensures.reads

pub returns-clause-written : goal.returns-clause-written
returns-clause-written g c words are =
    let inputs = g.H.Host.bytes c.args.host.now in
    let before = g.H.Host.log c.args.host.now in
    let after = g.H.Host.log c.answer_to-answered.new.host in
    let answered = c.answer_to-answered.result in
    output_written inputs words (world before (g.W.Sink.written c.args.out.now)) after _ _ c.in_ok-output.output
    c.write_output.result c.in_ok-output.ensures.log (
      answered,
      inl (
        c.args.options.now,
        are,
        answers inputs c.args.options.now before after answered c.answer_to-answered.ensures.ok
            c.answer_to-answered.ensures.err c.answer_to-answered.ensures.reads,
      ),
      c.in_ok-output.ensures.ok,
    )
    c.write_output.ensures.written

pub returns-clause-reads : goal.returns-clause-reads
returns-clause-reads g c =
    let before = g.H.Host.log c.args.host.now in
    let after = g.H.Host.log c.answer_to-answered.new.host in
    tallied before after (g.H.Host.log c.output_of.new.host) c.write_output.result
    (taken_back (input_names c.args.options.now) before after c.answer_to-answered.result c.in_ok-output.output
    c.answer_to-answered.ensures.reads c.in_ok-output.ensures.ok) c.in_ok-output.ensures.log c.write_output.ensures.error
