use Rattle.std.proofs.Common.{arith, subst, sym, ◌≡◌, List, Ok}
use Rattle.machine.specs.declared.step.Step.{Step}
use Rattle.machine.specs.Taken.{all_taken, begun}
use Rattle.live.proofs.Traces.{replay_more}
use Rattle.live.proofs.traced.Traced.advance.Goals as goal

pub invariant_of-self-2 : goal.invariant_of-self-2
invariant_of-self-2 c = (
  subst (λ (l : List Step). all_taken c.step.new.self.program.cores c.step.new.self.capacity
      c.step.new.self.fault (begun c.step.new.self.program) l ≡ Ok c.step.new.self.state)
      (sym c.in-Ok.ensures.items)
      (replay_more c.self.inside.machine c.step.new.self c.self.inside.steps.items c.args.step
      c.self.invariant.0 c.in_default.ensures.ok c.in_default.ensures.rest),
  omega (arith, c.in-Ok.ensures.len, c.len.ensures, c.if-len-self.false),
  omega (arith, c.in-Ok.ensures.capacity, c.self.invariant.2),
)
