use Rattle.std.proofs.Common.{◌≡◌, drop}
use Rattle.outcomes.specs.Follow.{HasComeTo}
use Rattle.outcomes.specs.Reachable.{after_moves}
use Rattle.outcomes.specs.Situation.{beginning}
use Rattle.outcomes.proofs.driving.follow.Given as goal

abbrev pub invariant-loop-turn : goal.invariant-loop-turn
invariant-loop-turn l = record {
  come : HasComeTo l.program l.row l.replay;
  rest : after_moves l.program.cores l.row (drop l.turn-index l.turns)
      ≡ after_moves l.program.cores (beginning l.program) l.turns;
}
