use Rattle.std.proofs.Common.{◌≡◌, ◌+◌, ◌∙◌, ℕ, List, drop, ap, sym, subst}
use Rattle.completion.specs.Situation.{memory_of}
use Rattle.completion.specs.declared.moves.Turn.{Turn}
use Rattle.completion.specs.Performed.{IsTrail}
use Rattle.completion.specs.Reachable.{Leads, here, further, after_moves}
use Rattle.completion.specs.Situation.{beginning, IsEnd}
use Rattle.situations.specs.Situation.{Situation, drained_of, place_of}
use Rattle.completion.proofs.Begun.{turn_goes, way_over}
use Rattle.completion.proofs.trail.follow.Goals as goal

pub loop-next-init : goal.loop-next-init
loop-next-init c = record {
  led = subst (Leads c.args.values.now (beginning c.args.values.now)) (sym c.in_ok-row.ensures) here;
  trail = c.in_ok-trail.ensures;
  rest = ap (λ (z : Situation). after_moves c.args.values.now z c.args.turns.now) c.in_ok-row.ensures;
}

pub loop-next-preserved : goal.loop-next-preserved
loop-next-preserved c =
    let v = c.args.values.now in
    let turns : List Turn = c.args.turns.now in
    let i : ℕ = c.loop-next.next-index in
    let row : Situation = c.loop-next.row in
    let end = c.requires.end in
    let goes = turn_goes v turns i _ row end.0 c.loop-next-test.true (c.loop-next.invariant.rest ∙ end.1) in
    let made = c.in_ok-row-2.ensures goes.0 goes.1 in
    subst (λ (z : Situation). record {
      led : Leads v (beginning v) z;
      trail : IsTrail v c.take_turn.new.trail.order.items c.take_turn.new.trail.sources.items (place_of z)
          (drained_of z) (memory_of z);
      rest : after_moves v z (drop (i + 1) turns) ≡ after_moves v (beginning v) turns;
    }) (sym made.0) (record {
      led = further row goes.0 _ _ c.loop-next.invariant.led goes.1;
      trail = made.1;
      rest = goes.2 ∙ sym end.1;
    })

pub returns : goal.returns
returns c =
    let end = c.requires.end in
    let same : c.loop-next.row ≡ end.0 =
    way_over c.args.values.now c.args.turns.now c.loop-next.next-index c.loop-next.row end.0 c.loop-next-test.false
    (c.loop-next.invariant.rest ∙ end.1) in
    (c.loop-next.row, subst (IsEnd c.args.values.now) (sym same) end.2, c.loop-next.invariant.trail)
