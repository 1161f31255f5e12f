use Rattle.std.proofs.Common.{false, true, refl, arith, ◌≡◌}
use Rattle.order.proofs.Enumerated.{kept_stand, kept_fail}
use Rattle.order.proofs.kept.keeps_order.Goals as goal

pub returns-then-not-keeps_after : goal.returns-then-not-keeps_after
returns-then-not-keeps_after c = (
  λ wrong. absurd (let no : false ≡ true = wrong in cc),
  λ stand. c.if-not-keeps_after.ensures.1
      (λ i lt h. kept_fail c.args.recording.now c.args.order.now c.requires stand c.loop-at.at i lt h),
)

pub returns : goal.returns
returns c = (
  λ _. kept_stand c.args.recording.now c.args.order.now c.requires
      (λ at i la lt li. c.loop-at.invariant at i (omega arith) lt li),
  λ _. refl,
)
