use Rattle.std.proofs.Common.{refl}
use Rattle.recorder.proofs.SpacedTokens.{one_skipped}
use Rattle.recorder.proofs.spaced.skip_one.Goals as goal

pub returns-then-take_byte : goal.returns-then-take_byte
returns-then-take_byte c =
    one_skipped c.args.rest.now c.take_byte.new.rest (c.if-take_byte.ensures.found refl)
