use Rattle.std.proofs.Common.{◌≡◌, map, take}
use Rattle.std.specs.Prelude.{fold}
use Rattle.clap.specs.Words.{app_of}
use Rattle.command_line.specs.Commands.{row_of, with_command}
use Rattle.command_line.proofs.build.with_rows.Given as goal

abbrev pub invariant-loop-row : goal.invariant-loop-row
invariant-loop-row l =
    app_of l.longer ≡ fold with_command (app_of l.fn.program) (take l.row-index (map row_of l.rows))
