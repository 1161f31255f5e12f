use Rattle.std.proofs.Common.{◌≡◌, ◌++◌, sym, rules, ◌∙◌}
use Rattle.std.proofs.lemmas.Bool.Decides.{Decides-eqb}
use Rattle.std.proofs.lemmas.Slice.Eq.{strip_prefix_is}
use Rattle.std.proofs.lemmas.List.{append_cancel_left}
use Rattle.texts.proofs.cursor.Cursor.take.Goals as goal

pub returns-in-Some-clause-found : goal.returns-in-Some-clause-found
returns-in-Some-clause-found c h =
    let begins = strip_prefix_is Decides-eqb c.self.inside.rest.now c.args.text.now c.strip_prefix.result
    c.strip_prefix.ensures.cases in
    sym c.self.view_is ∙ (rw c.in-Some.is at begins)

pub returns-in-Some-clause-only : goal.returns-in-Some-clause-only
returns-in-Some-clause-only c more is =
    let begins = strip_prefix_is Decides-eqb c.self.inside.rest.now c.args.text.now c.strip_prefix.result
    c.strip_prefix.ensures.cases in
    let here : c.self.inside.rest.now ≡ c.args.text.now ++ c.in-Some.rest.now = rw c.in-Some.is at begins in
    (search rules, append_cancel_left c.args.text.now _ _ (sym here ∙ c.self.view_is ∙ is))

pub returns-clause-only : goal.returns-clause-only
returns-clause-only c more is =
    let begins = strip_prefix_is Decides-eqb c.self.inside.rest.now c.args.text.now c.strip_prefix.result
    c.strip_prefix.ensures.cases in
    let none = rw c.in_default.is at begins in absurd (none more (c.self.view_is ∙ is))
