use Rattle.std.proofs.Common.{◌∙◌, ap, List, subst, suc}
use Rattle.json.specs.Token.{Token}
use Rattle.json.specs.Lex.{lex, between, punctuate, after_comma}
use Rattle.recorder.specs.Clipped.{clipped_event}
use Rattle.recorder.specs.ByTokens.{GivesValue, later_tokens}
use Rattle.recorder.proofs.UsualEvents.{usual_gives}
use Rattle.recorder.proofs.plain.events.take_spaced.Goals as goal

pub returns-in-Some : goal.returns-in-Some
returns-in-Some c depth =
    let begins = ap (lex between) (c.new-spaced.ensures ∙ c.rest.ensures) ∙ c.skip_one.ensures in
    rw (c.new.ensures ∙ c.rest-in-Some.ensures)
    (subst (λ (ts : List Token). GivesValue clipped_event (suc depth) ts c.in-Some.event
    (later_tokens c.take_usual.new.rest)) (ap (punctuate after_comma) begins)
    (usual_gives depth c.new-spaced.result c.take_usual.new.rest c.in-Some.event c.in-Some.ensures))
