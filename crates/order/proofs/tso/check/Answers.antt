use Rattle.order.proofs.tso.check.Goals as goal

pub returns-then-keeps_writes-clause-order : goal.returns-then-keeps_writes-clause-order
returns-then-keeps_writes-clause-order c = (
  λ given. record {
    total = c.is_total.ensures.0 c.if-not-is_total.false;
    kept = c.keeps_order.ensures.0 c.if-not-keeps_order.false;
    write_order = c.keeps_writes.ensures.0 c.if-keeps_writes.true;
    values = c.gives_values.ensures.0 given;
  },
  λ order. c.gives_values.ensures.1 order.values,
)

pub returns-then-keeps_writes-clause-respects : goal.returns-then-keeps_writes-clause-respects
returns-then-keeps_writes-clause-respects c =
    λ given. (c.forced_is_exact.ensures.respects c.args.recording.now c.args.order.now
    c.sound.ensures.well_formed (record {
      total = c.is_total.ensures.0 c.if-not-is_total.false;
      kept = c.keeps_order.ensures.0 c.if-not-keeps_order.false;
      write_order = c.keeps_writes.ensures.0 c.if-keeps_writes.true;
      values = c.gives_values.ensures.0 given;
    })).0
