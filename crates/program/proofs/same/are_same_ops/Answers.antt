use Rattle.std.proofs.Common.{refl, arith}
use Rattle.std.proofs.lemmas.List.{same_lists}
use Rattle.program.proofs.same.are_same_ops.Goals as goal

pub returns : goal.returns
returns c = (
  λ _. same_lists c.args.a.now c.args.b.now (omega (arith, c.if-a-b.false))
      (λ j d low. c.loop-i.invariant j d (omega (arith, low, c.loop-i-test.false))),
  λ _. refl,
)
