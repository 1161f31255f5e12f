use Rattle.std.proofs.Common.{◌∷◌, [], refl}
use Rattle.recorder.proofs.SpacedTokens.{key_read}
use Rattle.recorder.proofs.plain.values.take_key.Goals as goal

pub returns : goal.returns
returns c =
    key_read c.args.rest.now c.take_letter.new.rest c.take_sign.new.rest (c.in_ok-letter.letter ∷ [])
    c.in_ok-letter.ensures (c.if-not-take_sign.ensures.found refl)
