use Rattle.std.proofs.Common.{take}
use Rattle.program.specs.Names.{AreLawful}
use Rattle.program.proofs.lawful.are_lawful.Given as goal

abbrev pub invariant-loop-i : goal.invariant-loop-i
invariant-loop-i l = AreLawful (take l.i l.names.keys)
