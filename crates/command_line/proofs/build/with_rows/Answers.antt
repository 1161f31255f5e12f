use Rattle.clap.specs.Words.{app_of}
use Rattle.command_line.specs.Commands.{row_of}
use Rattle.command_line.proofs.Added.{command_more}
use Rattle.command_line.proofs.build.with_rows.Goals as goal

pub loop-row-preserved : goal.loop-row-preserved
loop-row-preserved c =
    command_more row_of c.args.rows.now c.loop-row.row-index _ c.loop-row-test.true (app_of c.args.program)
    c.loop-row.longer c.in_ok-longer-in-Ok.longer c.in-Ok.command c.loop-row.invariant c.in-Ok.ensures.0
    c.in-Ok.ensures.1 c.in_ok-longer-in-Ok.ensures
