use Rattle.std.proofs.Common.{◌≡◌, ◌∙◌, ◌++◌, ◌∷◌, [], List, Option, Some, ap, subst, sym, ℕ}
use Rattle.values.specs.Values.{Values}
use Rattle.program_answers.specs.Why.{IsAnsweredOf, first_values}
use Rattle.program_answers.proofs.why.why_text.Goals as goal

pub returns : goal.returns
returns c =
    let text : List ℕ = c.in_ok-answer.answer.text.items in
    let is : Some c.in-Some.values ≡ first_values c.args.program.now c.args.outcomes.now c.args.lines.now =
    sym c.in-Some.is ∙ c.in_ok-values.ensures in
    let line : c.push.new.self.items ≡ 10 ∷ [] =
    c.in_ok-push.ensures.items ∙ ap (λ (l : List ℕ). l ++ 10 ∷ []) c.new-text.ensures.items in
    let shown : c.extend_from_slice.new.self.items ≡ 10 ∷ text =
    c.in_ok-extend_from_slice.ensures.items ∙ (ap (λ (l : List ℕ). l ++ c.deref.result.now) line
    ∙ ap (λ (l : List ℕ). 10 ∷ l) c.deref.ensures.value) in
    subst (λ (o : Option Values). IsAnsweredOf c.args.states o c.extend_from_slice.new.self.items) is
    (c.in_ok-answer.answer, c.in_ok-answer.ensures, shown)
