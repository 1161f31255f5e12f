use Rattle.std.proofs.Common.{◌≡◌, ◌++◌, map, drop}
use Rattle.std.specs.List.{AllByRecursion}
use Rattle.program.specs.Parts.{Small}
use Rattle.program_events.specs.NamedProgram.{op_of}
use Rattle.program_events.proofs.operations.ops_of.Given as goal

abbrev pub invariant-loop-event : goal.invariant-loop-event
invariant-loop-event l = record {
  ops : l.ops ++ map op_of (drop l.event-index l.events) ≡ map op_of l.events;
  small : AllByRecursion Small l.ops;
}
