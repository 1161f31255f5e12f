use Rattle.command_line.proofs.Added.{argument_more, local_kept}
use Rattle.command_line.proofs.build.command_of.Goals as goal

pub loop-argument-preserved : goal.loop-argument-preserved
loop-argument-preserved c = record {
  app = argument_more (λ a. (a.name.now, a.takes)) c.args.row.now.arguments.now c.loop-argument.argument-index _
      c.loop-argument-test.true c.args.row.now.name.now c.loop-argument.command c.in_ok-command.command c.arg.result
      c.loop-argument.invariant.app c.arg.ensures.rule c.arg.ensures.local c.in_ok-command.ensures;
  local = local_kept _ _ _ c.in_ok-command.ensures.globals c.arg.ensures.local c.loop-argument.invariant.local;
}
