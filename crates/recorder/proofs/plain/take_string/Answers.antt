use Rattle.std.proofs.Common.{◌∙◌, ap, refl, sym}
use Rattle.json.specs.Lex.{lex, between}
use Rattle.json.specs.Text.{content}
use Rattle.recorder.proofs.plain.take_string.Goals as goal

pub returns-then-take : goal.returns-then-take
unfolding lex content
returns-then-take c =
    sym c.skip_space.ensures
    ∙ ap (lex between) (c.if-take.ensures.found refl)

pub returns-then-take-2 : goal.returns-then-take-2
unfolding lex content
returns-then-take-2 c =
    sym c.skip_space.ensures ∙ ap (lex between) (sym (c.if-take.ensures.kept refl))
    ∙ ap (lex between) (c.if-take-2.ensures.found refl)

pub returns-then-take-3 : goal.returns-then-take-3
unfolding lex content
returns-then-take-3 c =
    sym c.skip_space.ensures ∙ ap (lex between) (sym (c.if-take.ensures.kept refl))
    ∙ ap (lex between) (sym (c.if-take-2.ensures.kept refl))
    ∙ ap (lex between) (c.if-take-3.ensures.found refl)

pub returns-then-take-4 : goal.returns-then-take-4
unfolding lex content
returns-then-take-4 c =
    sym c.skip_space.ensures ∙ ap (lex between) (sym (c.if-take.ensures.kept refl))
    ∙ ap (lex between) (sym (c.if-take-2.ensures.kept refl))
    ∙ ap (lex between) (sym (c.if-take-3.ensures.kept refl))
    ∙ ap (lex between) (c.if-take-4.ensures.found refl)
