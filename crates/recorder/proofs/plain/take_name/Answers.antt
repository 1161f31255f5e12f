use Rattle.std.proofs.Common.{refl}
use Rattle.recorder.specs.Names.{name_of}
use Rattle.recorder.proofs.SpacedTokens.{key_read}
use Rattle.recorder.proofs.plain.take_name.Goals as goal

pub returns : goal.returns
returns c =
    key_read c.args.rest.now c.take_string.new.rest c.take_sign.new.rest (name_of c.in_ok-name.name)
    c.in_ok-name.ensures (c.if-not-take_sign.ensures.found refl)
