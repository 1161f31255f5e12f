use Rattle.completion.proofs.AllFree.{HaveSettled}
use Rattle.completion.proofs.settling.settle.Given as goal

abbrev pub invariant-loop-core : goal.invariant-loop-core
invariant-loop-core l = HaveSettled l.values l.initial.row l.row l.core
