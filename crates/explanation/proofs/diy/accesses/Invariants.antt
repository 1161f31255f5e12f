use Rattle.std.proofs.Common.{◌≡◌, take}
use Rattle.explanation.specs.Diy.{accesses}
use Rattle.explanation.proofs.diy.accesses.Given as goal

abbrev pub invariant-loop-number : goal.invariant-loop-number
invariant-loop-number l = l.found.items ≡ accesses l.recording (take l.number-index l.cycle)
