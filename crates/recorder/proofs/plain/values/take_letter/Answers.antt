use Rattle.std.proofs.Common.{◌∙◌, ap, arith, sym}
use Rattle.json.specs.Lex.{lex, between}
use Rattle.recorder.proofs.SpacedTokens.{letter_found}
use Rattle.recorder.proofs.plain.values.take_letter.Goals as goal

pub returns : goal.returns
returns c =
    let bytes = c.rest-bytes.result.now in
    sym c.skip_space.ensures ∙ ap (lex between) (sym c.rest-bytes.ensures)
    ∙ letter_found bytes c.new.result (omega (arith, c.if-bytes-lt3.false)) (omega (arith, c.if-bytes-ne34.false))
    (omega (arith, c.if-bytes-ne34-2.false)) c.if-letter-eq34.false c.if-letter-eq92.false
    (omega (arith, c.if-letter-lt32.false)) c.new.ensures
