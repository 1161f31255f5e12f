use Rattle.program.specs.declared.fault.Fault.TheVariants.{None}
use Rattle.replay.proofs.EveryOrder.{every_order_is_replayed, makes_exactly_tso}
use Rattle.replay.proofs.law.every_order_is_replayed.Goals as goal

pub returns-clause-replay : goal.returns-clause-replay
returns-clause-replay c = every_order_is_replayed (record {
  tso = c.every_run_is_tso.ensures.tso;
  well_formed = λ p n capacity steps. c.every_run_is_tso.ensures.well_formed p n capacity None steps;
  orderly = c.every_state_is_orderly.ensures;
})

pub returns-clause-exactly : goal.returns-clause-exactly
returns-clause-exactly c = makes_exactly_tso (record {
  tso = c.every_run_is_tso.ensures.tso;
  well_formed = λ p n capacity steps. c.every_run_is_tso.ensures.well_formed p n capacity None steps;
  orderly = c.every_state_is_orderly.ensures;
})
