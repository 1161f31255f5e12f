use Rattle.std.proofs.Common.{◌≡◌, ◌++◌, drop}
use Rattle.std.specs.List.{AllByRecursion}
use Rattle.program.specs.Parts.{IsSmall}
use Rattle.program_events.proofs.naming.values_of.Given as goal

abbrev pub invariant-loop-value : goal.invariant-loop-value
invariant-loop-value l = record {
  values : l.values.items ++ drop l.value-index l.init ≡ l.init;
  small : AllByRecursion IsSmall l.values.items;
}
