use Rattle.std.proofs.Common.{◌∙◌, ◌++◌, ◌∷◌, [], Bool, List, ℕ, ap, append-nil, false, refl, subst, sym, true}
use Rattle.cycles.specs.Listing.{cycle_text}
use Rattle.program_answers.specs.Cycles.{IsWanted, cycle_line}
use Rattle.program_answers.proofs.made_answers.put_cycle.Goals as goal

pub returns-then-not-branch : goal.returns-then-not-branch
returns-then-not-branch c =
    let said = subst (λ (t : List ℕ). IsWanted c.args.choice t c.in_ok-is_wanted.field-0)
    (c.deref.ensures.value ∙ c.in_ok-line.ensures) c.in_ok-is_wanted.ensures in
    let wanted = subst (λ (b : Bool). IsWanted c.args.choice (cycle_text c.args.blocks.now) b) c.if-not-branch.true said in
    ([], (false, wanted, refl), sym (append-nil c.args.out.now.items))

pub returns : goal.returns
returns c =
    let said = subst (λ (t : List ℕ). IsWanted c.args.choice t c.in_ok-is_wanted.field-0)
    (c.deref.ensures.value ∙ c.in_ok-line.ensures) c.in_ok-is_wanted.ensures in
    let wanted = subst (λ (b : Bool). IsWanted c.args.choice (cycle_text c.args.blocks.now) b) c.if-not-branch.false said in
    let line = c.deref-2.ensures.value
    ∙ (c.in_ok-push.ensures.items ∙ ap (λ (l : List ℕ). l ++ 10 ∷ []) c.in_ok-line.ensures) in (
      cycle_line c.args.blocks.now,
      (true, wanted, refl),
      c.in_ok-extend_from_slice.ensures.items ∙ ap (λ (l : List ℕ). c.args.out.now.items ++ l) line,
    )
