use Rattle.std.proofs.Common.{◌≡◌, ◌≢◌, ◌∙◌, ◌-◌, ℕ, Option, Some, List, IfNone, IfSome, ap, arith, slice_get, subst}
use Rattle.outcomes.specs.declared.moves.Move.{Move}
use Rattle.outcomes.specs.declared.moves.Turn.{Turn}
use Rattle.outcomes.specs.Reachable.{after_moves}
use Rattle.outcomes.specs.Situation.{beginning, moved}
use Rattle.situations.specs.Situation.{Situation}
use Rattle.outcomes.proofs.Ways.{back_begun, back_done, back_found, back_none}
use Rattle.outcomes.proofs.way.way_to.Goals as goal
use Rattle.outcomes.proofs.way.way_to.Goals.{in-Some+in_ok-push-in-Some, in-None}

pub loop-tried-init : goal.loop-tried-init
loop-tried-init c =
    back_begun c.args.program.now.cores c.args.rows.now.keys c.args.at c.new-turns.result.items c.new-turns.ensures.items

pub loop-tried-preserved : goal.loop-tried-preserved
loop-tried-preserved c =
    let rows : List Situation = c.args.rows.now.keys in
    let f : Situation = c.in_ok-earlier.earlier in
    let t : Situation = c.in_ok-later.later in
    let from : slice_get rows (c.args.at - 1 - c.loop-tried.tried) ≡ Some f = c.in_ok-earlier.ensures.row in
    let there : slice_get rows c.loop-tried.to ≡ Some t = c.in_ok-later.ensures.row in
    elim c.match-branch-4.branch [
      | in-Some+in_ok-push-in-Some w ↦ rw (w.to-is, w.turns-is) (back_found c.args.program.now.cores rows c.args.at
          c.loop-tried.tried c.loop-tried.to c.loop-tried.turns.items f t c.loop-tried-test.true c.loop-tried.invariant
          from there w.in-Some.turn w.push.new.self.items
          (subst (λ (o : Option Turn). IfSome o (λ y. moved c.args.program.now.cores f y.step y.core ≡ Some t)) w.in-Some.is
          c.in_ok-turn.ensures.some) w.in_ok-push-in-Some.ensures.items)
      | in-None w ↦ rw (w.to-is, w.turns-is) (back_none c.args.program.now.cores rows c.args.at
          c.loop-tried.tried c.loop-tried.to c.loop-tried.turns.items f t c.loop-tried-test.true c.loop-tried.invariant
          from there (subst (λ (o : Option Turn). IfNone o ((move : Move) (k : ℕ)
          → moved c.args.program.now.cores f move k ≢ Some t)) w.in-None.is c.in_ok-turn.ensures.none))
    ]

pub returns : goal.returns
returns c =
    ap (after_moves c.args.program.now.cores (beginning c.args.program.now)) c.reverse.ensures.items
    ∙ back_done c.args.program.now c.args.rows.now.keys c.args.at c.loop-tried.tried c.loop-tried.to
    c.loop-tried.turns.items c.requires.order c.requires.there c.loop-tried.invariant
    (omega (arith, c.loop-tried-test.false))
