use Rattle.std.proofs.Common.{◌≡◌, drop, take}
use Rattle.std.specs.List.{AllByRecursion}
use Rattle.program.specs.Parts.{Small, use_ops}
use Rattle.program.proofs.lawful.use_ops.Given as goal

abbrev pub invariant-loop-op : goal.invariant-loop-op
invariant-loop-op l = record {
  numbered : use_ops l.used (drop l.op-index l.ops) ≡ use_ops l.fn.first l.ops;
  small : AllByRecursion Small (take l.op-index l.ops);
}
