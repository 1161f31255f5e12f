use Rattle.std.proofs.Common.{◌≡◌, ◌++◌, map, drop}
use Rattle.std.specs.List.{AllByRecursion}
use Rattle.program.specs.Parts.{Small}
use Rattle.program_events.specs.NamedProgram.{op_of}
use Rattle.program_events.proofs.operations.cores_of.Given as goal

abbrev pub invariant-loop-events : goal.invariant-loop-events
invariant-loop-events l = record {
  cores : l.cores.items ++ map (λ v. map op_of v.items) (drop l.events-index l.lists) ≡ map
      (λ v. map op_of v.items) l.lists;
  small : AllByRecursion (AllByRecursion Small) l.cores.items;
}
