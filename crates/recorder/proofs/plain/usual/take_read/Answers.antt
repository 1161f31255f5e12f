use Rattle.std.proofs.Common.{◌∙◌, ◌∷◌, List, ap, decimal, refl, codes}
use Rattle.json.specs.Token.{Token}
use Rattle.recorder.proofs.UsualEvents.{comma_ends, number_fresh, source_fresh, source_key, value_key}
use Rattle.recorder.proofs.plain.usual.take_read.Goals as goal

pub returns : goal.returns
returns g c =
    let value = c.in_ok-value.ensures in
    let source = c.in_ok-source.ensures in
    let first = value_key c.args.rest.now c.take_part.new.rest (c.if-not-take_part.ensures refl) in
    let next = source_key c.take_word.new.rest c.take_part-2.new.rest (c.if-not-take_part-2.ensures refl)
    in (
      value.0,
      source.0,
      first.0,
      λ ends. first.1 ∙ ap (λ (ts : List Token). Token.key (codes "r") ∷ ts)
          (number_fresh c.take_part.new.rest c.take_word.new.rest c.in_ok-value.value value.0 value.1
          (comma_ends c.take_word.new.rest next.0)
          ∙ ap (λ (ts : List Token). Token.number (decimal c.in_ok-value.value) ∷ ts) (next.1
          ∙ ap (λ (ts : List Token). Token.key (codes "s") ∷ ts)
          (source_fresh c.take_part-2.new.rest c.take_source.new.rest c.in_ok-source.source source.0 source.1 ends))),
    )
