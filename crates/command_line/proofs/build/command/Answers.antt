use Rattle.std.proofs.Common.{[], drop, map, take}
use Rattle.std.proofs.lemmas.Result.{IfOk-weaker}
use Rattle.clap.specs.Words.{app_of}
use Rattle.command_line.specs.Commands.{commands, row_of}
use Rattle.command_line.proofs.Added.{commands_more}
use Rattle.command_line.proofs.build.command.Goals as goal

pub returns : goal.returns
returns c =
    let five = commands_more [] (take 5 commands) (map row_of c.running.result.now) (app_of c.in_ok-program.program)
    (app_of c.in_ok-program-2.program) c.in_ok-program.ensures.0 c.running.ensures.rows c.in_ok-program-2.ensures in
    let nine = commands_more (take 5 commands) (take 4 (drop 5 commands)) (map row_of c.explaining.result.now)
    (app_of c.in_ok-program-2.program) (app_of c.in_ok-program-3.program) five c.explaining.ensures.rows
    c.in_ok-program-3.ensures in
    let eleven = commands_more (take 9 commands) (take 2 (drop 9 commands)) (map row_of c.counting.result.now)
    (app_of c.in_ok-program-3.program) (app_of c.in_ok-program-4.program) nine c.counting.ensures.rows
    c.in_ok-program-4.ensures in
    IfOk-weaker c.with_rows-4.result _ _
    (λ program adds. commands_more (take 11 commands) (drop 11 commands) (map row_of c.asking.result.now)
    (app_of c.in_ok-program-4.program) (app_of program) eleven c.asking.ensures.rows adds) c.with_rows-4.ensures
