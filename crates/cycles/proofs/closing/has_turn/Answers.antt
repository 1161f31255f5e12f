use Rattle.std.proofs.lemmas.Bool.{false≢true}
use Rattle.cycles.specs.Closing.{Turns}
use Rattle.cycles.proofs.Loops.{one_more}
use Rattle.cycles.proofs.closing.has_turn.Goals as goal

pub loop-i-preserved : goal.loop-i-preserved
loop-i-preserved c =
    one_more (λ j. ¬ Turns c.args.words.now j) c.loop-i.i c.loop-i.invariant (λ turns. false≢true (c.if-turns.ensures.1 turns))
