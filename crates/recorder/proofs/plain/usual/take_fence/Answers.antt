use Rattle.std.proofs.Common.{refl}
use Rattle.recorder.proofs.UsualEvents.{fence_writes}
use Rattle.recorder.proofs.plain.usual.take_fence.Goals as goal

pub returns : goal.returns
returns g c =
    fence_writes c.args.rest.now c.take.new.self c.skip_gap.new.rest c.take-2.new.self
    (c.if-not-take.ensures.found refl) c.skip_gap.ensures (c.if-not-take-2.ensures.found refl)
