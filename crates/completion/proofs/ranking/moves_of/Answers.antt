use Rattle.std.proofs.Common.{map, arith}
use Rattle.completion.specs.Seen.{turn_of}
use Rattle.completion.specs.declared.moves.Move.TheVariants.{Modify}
use Rattle.completion.specs.declared.ranking.Choice.{Choice}
use Rattle.completion.proofs.Vain.{last_taken}
use Rattle.completion.proofs.ranking.moves_of.Goals as goal

pub loop-core-preserved : goal.loop-core-preserved
loop-core-preserved c =
    last_taken c.args.values.now c.args.row.now (map (λ (x : Choice). x.turn) c.add-in-loop-core.new.found.items) c.loop-core.core
    (λ move d low. c.in_ok-add-2.ensures.more (turn_of move d) (c.in_ok-add.ensures.more (turn_of move d)
    (c.loop-core.invariant move d low)))
    (c.in_ok-add-2.ensures.more (turn_of Modify c.loop-core.core) c.in_ok-add.ensures.added) c.in_ok-add-2.ensures.added

pub returns : goal.returns
returns c move d low = c.loop-core.invariant move d (omega (arith, low, c.loop-core-test.false, c.core_count-core-end.ensures))
