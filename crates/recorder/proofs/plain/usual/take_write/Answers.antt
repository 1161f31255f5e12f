use Rattle.std.proofs.Common.{◌∙◌, ◌∷◌, List, ap, refl, codes}
use Rattle.json.specs.Token.{Token}
use Rattle.recorder.proofs.UsualEvents.{number_fresh, write_key}
use Rattle.recorder.proofs.plain.usual.take_write.Goals as goal

pub returns : goal.returns
returns g c =
    let value = c.in_ok-value.ensures in
    let key = write_key c.args.rest.now c.take_part.new.rest (c.if-not-take_part.ensures refl) in (
      value.0,
      key.0,
      λ ends. key.1 ∙ ap (λ (ts : List Token). Token.key (codes "w") ∷ ts)
          (number_fresh c.take_part.new.rest c.take_word.new.rest c.in_ok-value.value value.0 value.1 ends),
    )
