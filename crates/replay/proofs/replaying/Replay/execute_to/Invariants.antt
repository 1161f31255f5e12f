use Rattle.std.proofs.Common.{◌≡◌, ◌-◌, ◌≤◌, replicate}
use Rattle.machine.specs.declared.step.Step.TheVariants.{Exec}
use Rattle.replay.specs.Steps.{with_steps}
use Rattle.replay.proofs.replaying.Replay.execute_to.Given as goal

abbrev pub invariant-loop : goal.invariant-loop
invariant-loop l = record {
  from : l.next ≤ l.counter;
  to : l.counter - l.next ≤ l.event - l.next;
  taken : l.self ≡ with_steps l.fn.self (replicate (l.counter - l.next) (Exec l.core));
}
