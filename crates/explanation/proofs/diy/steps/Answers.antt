use Rattle.std.proofs.Common.{ℕ, ◌≡◌, ◌+◌, suc, get_or, arith, subst}
use Rattle.explanation.specs.Diy.{AreWordSteps, IsStep}
use Rattle.explanation.proofs.diy.steps.Goals as goal

pub loop-i-preserved : goal.loop-i-preserved
loop-i-preserved c =
    let x = c.args.recording.now in
    let es = c.args.accesses.now in
    let i = c.loop-i.i in
    let next : suc i ≡ i + 1 = omega arith in
    let step = subst (λ (f : ℕ). IsStep x (get_or es i 0) f c.step_of.result) c.next_in_cycle.ensures.value
    c.step_of.ensures in
    subst (λ (n : ℕ). AreWordSteps x es n c.push.new.self.items) next
    (c.loop-i.found.items, c.step_of.result, c.loop-i.invariant, step, c.in_ok-push.ensures.items)
