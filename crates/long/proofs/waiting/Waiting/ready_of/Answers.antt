use Rattle.std.proofs.Common.{◌<◌, ◌^◌, ℕ, List, arith}
use Rattle.long.proofs.Keys.{below_none, below_still, below_more, below_all}
use Rattle.long.proofs.waiting.Waiting.ready_of.Goals.{then-counts-event-eq1+in_ok-put, else-counts-event-eq1}
use Rattle.long.proofs.waiting.Waiting.ready_of.Goals as goal

pub loop-event-init : goal.loop-event-init
loop-event-init c = below_none c.args.counts.now c.new-ready.result c.new-ready.ensures

pub loop-event-preserved : goal.loop-event-preserved
loop-event-preserved c =
    let counts = c.args.counts.now in
    let n = c.loop-event.event in
    let keys : List ℕ = c.loop-event.ready in
    let small : n < 2 ^ 32 = omega (arith, c.loop-event-test.true, c.requires) in
    elim c.if-counts-event-eq1.branch [
      | then-counts-event-eq1+in_ok-put w ↦ rw w.ready-is
          (below_more n counts keys w.put.new.self small c.loop-event.invariant w.if-counts-event-eq1.true
          (rw w.key_of.ensures.key at w.in_ok-put.ensures.put))
      | else-counts-event-eq1 w ↦ rw w.ready-is
          (below_still n counts keys small c.loop-event.invariant w.if-counts-event-eq1.false)
    ]

pub returns : goal.returns
returns c = below_all c.loop-event.event c.args.counts.now c.loop-event.ready
    (omega (arith, c.loop-event-test.false, c.loop-event.auto.event-end)) c.requires c.loop-event.invariant
