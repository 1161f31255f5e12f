use Rattle.std.proofs.Common.{◌<◌, ℕ, map}
use Rattle.completion.specs.declared.moves.Move.{Move}
use Rattle.completion.specs.Seen.{IsTaken}
use Rattle.completion.proofs.ranking.moves_of.Given as goal

abbrev pub invariant-loop-core : goal.invariant-loop-core
invariant-loop-core l = (move : Move) (c : ℕ) → c < l.core
    → IsTaken l.values l.row (map (λ x. x.turn) l.found.items) move c
