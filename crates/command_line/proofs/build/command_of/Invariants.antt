use Rattle.std.proofs.Common.{◌≡◌, false, take}
use Rattle.clap.specs.Words.{app_of}
use Rattle.clap.specs.declared.builder.command.Command.TheViews.{out-Command as fields_of}
use Rattle.command_line.specs.Commands.{command_app, row_of}
use Rattle.command_line.proofs.build.command_of.Given as goal

abbrev pub invariant-loop-argument : goal.invariant-loop-argument
invariant-loop-argument l = record {
  app : app_of l.command ≡ command_app (l.row.name.now, take l.argument-index (row_of l.row).1);
  local : (fields_of l.command).has_globals ≡ false;
}
