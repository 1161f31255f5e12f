use Rattle.std.proofs.Common.{◌≡◌, ◌-◌, ◌+◌, ◌∙◌, ℕ, ap, arith, replicate}
use Rattle.machine.specs.declared.step.Step.TheVariants.{Exec}
use Rattle.machine.specs.Configuration.{next_event}
use Rattle.replay.specs.Steps.{Replaying, with_steps}
use Rattle.replay.proofs.WrittenSteps.{one_more}
use Rattle.replay.proofs.replaying.Replay.execute_to.Goals as goal

pub loop-preserved : goal.loop-preserved
loop-preserved c = record {
  from = omega (arith, c.loop.invariant.from);
  to = omega (arith, c.loop.invariant.from, c.loop-test.true);
  taken = one_more c.args.self.now c.loop.self c.take.new.self (Exec c.args.core)
      (c.loop.counter - c.next_event-next.result) (c.loop.counter + 1 - c.next_event-next.result)
      c.loop.invariant.taken c.in_ok-take.ensures (omega (arith, c.loop.invariant.from));
}

pub returns : goal.returns
returns c =
    let whole : c.loop.counter - c.next_event-next.result ≡ c.args.event - c.next_event-next.result =
    omega (arith, c.loop.invariant.from, c.loop.invariant.to, c.loop-test.false) in
    c.loop.invariant.taken
    ∙ ap (λ (k : ℕ). with_steps c.args.self.now (replicate k (Exec c.args.core)))
    (whole ∙ (ap (λ (k : ℕ). c.args.event - k) c.next_event-next.ensures
    ∙ ap (λ (r : Replaying). c.args.event - next_event r.machine c.args.core) c.self.view_is))
