use Rattle.std.proofs.Common.{◌≡◌, ◌++◌, map, drop}
use Rattle.recording.specs.Execution.{placed_from}
use Rattle.completion.specs.Pairs.{pair_of}
use Rattle.completion.proofs.table.table.Given as goal

abbrev pub invariant-loop-core : goal.invariant-loop-core
invariant-loop-core l = map pair_of l.table.items ++ placed_from l.core (drop l.core l.values.cores)
    ≡ placed_from 0 l.values.cores
