use Rattle.std.proofs.Common.{◌+◌, arith}
use Rattle.completion.specs.Situation.{memory_of}
use Rattle.completion.specs.Performed.{going}
use Rattle.situations.specs.Situation.{drained_of, place_of}
use Rattle.completion.proofs.Going.{all_gone, next_goes, none_gone, trail_at}
use Rattle.completion.proofs.trail.execute_all.Goals as goal

pub loop-core-init : goal.loop-core-init
loop-core-init c =
    trail_at c.args.values.now c.args.trail.now.order.items c.args.trail.now.sources.items (place_of c.args.old.now)
    (going c.args.old.now c.args.new.now 0 (place_of c.args.old.now 0)) (drained_of c.args.new.now)
    (memory_of c.args.new.now) (none_gone c.args.old.now c.args.new.now) c.requires.trail

pub loop-core-preserved : goal.loop-core-preserved
loop-core-preserved c =
    let core = c.loop-core.core in
    trail_at c.args.values.now c.execute_core.new.trail.order.items c.execute_core.new.trail.sources.items
    (going c.args.old.now c.args.new.now core (place_of c.args.new.now core))
    (going c.args.old.now c.args.new.now (core + 1) (place_of c.args.old.now (core + 1))) (drained_of c.args.new.now)
    (memory_of c.args.new.now) (next_goes c.args.old.now c.args.new.now core) c.in_ok-execute_core.ensures

pub returns : goal.returns
returns c =
    let core = c.loop-core.core in
    trail_at c.args.values.now c.loop-core.trail.order.items c.loop-core.trail.sources.items
    (going c.args.old.now c.args.new.now core (place_of c.args.old.now core)) (place_of c.args.new.now)
    (drained_of c.args.new.now) (memory_of c.args.new.now)
    (all_gone c.args.old.now c.args.new.now c.args.values.now core c.requires.settles
    (omega (arith, c.loop-core-test.false, c.core_count-core-end.ensures, c.loop-core.auto.core-end))) c.loop-core.invariant
