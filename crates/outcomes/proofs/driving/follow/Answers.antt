use Rattle.std.proofs.Common.{◌∙◌, ap, subst, sym}
use Rattle.program.specs.Parts.{Parts}
use Rattle.outcomes.specs.declared.moves.Move.TheVariants.{Exec}
use Rattle.outcomes.specs.Follow.{HasComeTo}
use Rattle.outcomes.specs.Reachable.{after_moves}
use Rattle.situations.specs.Situation.{Situation}
use Rattle.outcomes.proofs.Ways.{next_made}
use Rattle.outcomes.proofs.driving.follow.Goals as goal

pub loop-turn-init : goal.loop-turn-init
loop-turn-init c =
    let p : Parts = c.args.program.now in record {
      come = subst (λ (r : Situation). HasComeTo p r c.args.replay.now) (sym c.in_ok-row.ensures) c.requires.begun;
      rest = ap (λ (r : Situation). after_moves p.cores r c.args.turns.now) c.in_ok-row.ensures;
    }

pub make_and_follow-requires-clause-can : goal.make_and_follow-requires-clause-can
make_and_follow-requires-clause-can c =
    next_made c.args.program.now.cores c.loop-turn.row c.args.turns.now c.loop-turn.turn-index
    (record { step = Exec; core = 0 }) c.requires.can.0 c.loop-turn-test.true
    (c.loop-turn.invariant.rest ∙ c.requires.can.1)
