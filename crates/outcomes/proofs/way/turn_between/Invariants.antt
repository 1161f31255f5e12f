use Rattle.std.proofs.Common.{◌≢◌, ◌<◌, ℕ, Some}
use Rattle.outcomes.specs.declared.moves.Move.{Move}
use Rattle.outcomes.specs.Situation.{moved}
use Rattle.outcomes.proofs.way.turn_between.Given as goal

abbrev pub invariant-loop-core : goal.invariant-loop-core
invariant-loop-core l = (move : Move) (c : ℕ) → c < l.core → moved l.program.cores l.from move c ≢ Some l.to
