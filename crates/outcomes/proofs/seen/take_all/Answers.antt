use Rattle.std.proofs.Common.{List, arith}
use Rattle.situations.specs.Situation.{Situation}
use Rattle.outcomes.proofs.Grown.{all_cores, grows_twice, last_core, place_grown}
use Rattle.outcomes.proofs.SeenRows.{fits_still, rest_twice}
use Rattle.outcomes.proofs.seen.take_all.Goals as goal

pub loop-core-preserved : goal.loop-core-preserved
loop-core-preserved c =
    let first : List Situation = c.args.seen.now.keys in
    let old : List Situation = c.loop-core.seen.keys in
    let mid : List Situation = c.take.new.seen.keys in
    let new : List Situation = c.take-in-loop-core.new.seen.keys in
    record {
      grows = grows_twice first old new c.loop-core.invariant.grows
          (grows_twice old mid new c.in_ok-take.ensures.grows c.in_ok-take-2.ensures.grows);
      reached = c.in_ok-take-2.ensures.reached;
      order = c.in_ok-take-2.ensures.order;
      next = last_core c.args.program.now.cores old mid new c.args.row.now c.loop-core.core
          c.in_ok-take.ensures.grows c.in_ok-take-2.ensures.grows c.loop-core.invariant.next
          c.in_ok-take.ensures.next c.in_ok-take-2.ensures.next;
      rest = rest_twice c.args.seen.now c.take.new.seen c.take-in-loop-core.new.seen
          (rest_twice c.args.seen.now c.loop-core.seen c.take.new.seen c.loop-core.invariant.rest
          c.in_ok-take.ensures.rest) c.in_ok-take-2.ensures.rest;
    }

pub take-requires-clause-there : goal.take-requires-clause-there
take-requires-clause-there c =
    let at = c.requires.there in
    (at.0, place_grown c.args.seen.now.keys c.loop-core.seen.keys at.0 c.args.row.now c.loop-core.invariant.grows at.1)

pub take-requires-clause-fits : goal.take-requires-clause-fits
take-requires-clause-fits c =
    fits_still c.args.seen.now c.loop-core.seen c.args.row.now c.requires.fits c.loop-core.invariant.rest

pub take-requires-in-loop-core-clause-there : goal.take-requires-in-loop-core-clause-there
take-requires-in-loop-core-clause-there c =
    let at = c.requires.there in (
      at.0,
      place_grown c.args.seen.now.keys c.take.new.seen.keys at.0 c.args.row.now
          (grows_twice c.args.seen.now.keys c.loop-core.seen.keys c.take.new.seen.keys c.loop-core.invariant.grows
          c.in_ok-take.ensures.grows) at.1,
    )

pub take-requires-in-loop-core-clause-fits : goal.take-requires-in-loop-core-clause-fits
take-requires-in-loop-core-clause-fits c =
    fits_still c.args.seen.now c.take.new.seen c.args.row.now c.requires.fits
    (rest_twice c.args.seen.now c.loop-core.seen c.take.new.seen c.loop-core.invariant.rest c.in_ok-take.ensures.rest)

pub returns-clause-next : goal.returns-clause-next
returns-clause-next c =
    all_cores c.args.program.now.cores c.loop-core.seen.keys c.args.row.now
    (λ move core inside. c.loop-core.invariant.next move core
    (omega (arith, inside, c.loop-core-test.false, c.cores-core-end.ensures.count)))
