use Rattle.std.proofs.Common.{ap, arith}
use Rattle.situations.specs.Situation.{Situation}
use Rattle.completion.proofs.Alone.{table_size}
use Rattle.completion.proofs.Begun.{begun_settles, begun_trail}
use Rattle.completion.proofs.trail.begin.Goals as goal

pub execute_all-requires-clause-settles : goal.execute_all-requires-clause-settles
execute_all-requires-clause-settles c =
    begun_settles c.args.values.now c.in_ok-none.none c.args.first.now
    (ap (λ (z : Situation). z.places) c.in_ok-none.ensures) c.requires.first

pub execute_all-requires-clause-trail : goal.execute_all-requires-clause-trail
execute_all-requires-clause-trail c =
    begun_trail c.args.values.now c.in_ok-none.none c.args.first.now
    (ap (λ (z : Situation). z.places) c.in_ok-none.ensures) c.requires.first c.new.result.items
    c.in_ok-vec.field-0.items c.new.ensures.items (omega (
      arith,
      c.in_ok-vec.ensures.len,
      c.in_ok-vec.field-0.ok.0,
      table_size c.args.values.now c.args.table.now c.requires.table,
    ))
