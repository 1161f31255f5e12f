use Rattle.std.proofs.Common.{◌++◌, Bool, List, ℕ, length, sym, ap, subst, ◌∙◌}
use Rattle.explanation.specs.Diy.{IsNamedAfter, named_words, words_from}
use Rattle.explanation.proofs.ToldWords.{told_named, told_unnamed}
use Rattle.explanation.proofs.diy.put_told.Goals as goal

pub returns-then-branch : goal.returns-then-branch
returns-then-branch c =
    let steps = c.args.steps.now in
    let at = c.loop-at.at in
    let h = subst (λ (b : Bool). IsNamedAfter c.loop-at.out.items (words_from steps at) b c.put_named.new.out.items)
    c.if-branch.true c.in_ok-put_named.ensures in
    h.2 ∙ (ap (λ (t : List ℕ). t ++ named_words (words_from steps at) h.0) c.loop-at.invariant.0
    ∙ ap (λ (t : List ℕ). c.args.out.now.items ++ t)
    (sym (c.loop-at.invariant.1 ∙ told_named steps at (length steps) h.0 c.loop-at-test.true h.1)))

pub loop-at-preserved : goal.loop-at-preserved
loop-at-preserved c =
    let steps = c.args.steps.now in
    let at = c.loop-at.at in
    let h = subst (λ (b : Bool). IsNamedAfter c.loop-at.out.items (words_from steps at) b c.put_named.new.out.items)
    c.if-branch.false c.in_ok-put_named.ensures in (
      h.1 ∙ c.loop-at.invariant.0,
      c.loop-at.invariant.1 ∙ told_unnamed steps at (length steps) c.loop-at-test.true h.0,
    )
