use Rattle.std.proofs.Common.{◌≡◌, ◌++◌, ◌∙◌, ◌⊎◌, inl, inr, ℕ, Bool, true, false, IsTrue, List, [], refl, subst, sym, ap}
use Rattle.std.proofs.lemmas.Bool.{false≢true}
use Rattle.long.specs.Texts.{IsLongText}
use Rattle.verification.specs.Held.{IsLineOrNone, IsMost}
use Rattle.verification.specs.Spelled.{HasSizes, IsSameAnswer, SpellsAnswer}
use Rattle.verification.proofs.LineHeld.{line_held, no_line}
use Rattle.verification.proofs.OneText.{same_one_line, same_witness}
use Rattle.verification.proofs.fault.line_that_holds.Goals as goal

pub returns-in_default : goal.returns-in_default
returns-in_default c =
    let x = c.args.recording.now in
    subst (λ (t : List ℕ). IsMost (IsLineOrNone x) c.args.text.now t) (sym c.new-line.ensures.items)
    (no_line x c.sound.ensures c.args.text.now (λ a one witness is.
    let r = c.in_ok-answer.ensures a [] (subst (λ (n : ℕ). HasSizes n 0 a) (sym c.len.ensures) is.sizes)
    (subst (SpellsAnswer a []) (sym c.new-rest.ensures) is.spelled) in rw c.in_default.is at r.0))

pub returns-then-not-is_one_line : goal.returns-then-not-is_one_line
returns-then-not-is_one_line c =
    let x = c.args.recording.now in
    subst (λ (t : List ℕ). IsMost (IsLineOrNone x) c.args.text.now t) (sym c.new-line.ensures.items)
    (no_line x c.sound.ensures c.args.text.now (λ a one witness is.
    let r = c.in_ok-answer.ensures a [] (subst (λ (n : ℕ). HasSizes n 0 a) (sym c.len.ensures) is.sizes)
    (subst (SpellsAnswer a []) (sym c.new-rest.ensures) is.spelled) in
    let same : IsSameAnswer a c.in-Some.answer = rw c.in-Some.is at r.0 in
    false≢true (sym c.if-not-is_one_line.true ∙ c.is_one_line.ensures.1 (same_one_line a c.in-Some.answer same one))))

-- an answer holds, or not
either : (holds : Bool) → IsTrue holds ⊎ (holds ≡ false)
either true = inl refl
either false = inr refl

pub returns : goal.returns
returns c =
    let x = c.args.recording.now in
    let a = c.in-Some.answer in
    elim (either c.in_ok-_holds._holds) [
      | inl right ↦
          let printed = c.in_ok-_holds.ensures.text right in
          line_held x c.sound.ensures c.args.text.now a c.put_answer_that_holds.new.out.items
          (c.is_one_line.ensures.0 c.if-not-is_one_line.false)
          (subst (IsLongText x a)
          (sym (printed.2 ∙ ap (λ (t : List ℕ). t ++ printed.0) c.new-line.ensures.items)) printed.1)
          (c.in_ok-_holds.ensures.exact.0 right) (λ b is.
          let r = c.in_ok-answer.ensures b [] (subst (λ (n : ℕ). HasSizes n 0 b) (sym c.len.ensures) is.sizes)
          (subst (SpellsAnswer b []) (sym c.new-rest.ensures) is.spelled) in rw c.in-Some.is at r.0)
      | inr wrong ↦ subst (λ (t : List ℕ). IsMost (IsLineOrNone x) c.args.text.now t)
          (sym (c.in_ok-_holds.ensures.nothing wrong ∙ c.new-line.ensures.items))
          (no_line x c.sound.ensures c.args.text.now (λ b one witness is.
          let r = c.in_ok-answer.ensures b [] (subst (λ (n : ℕ). HasSizes n 0 b) (sym c.len.ensures) is.sizes)
          (subst (SpellsAnswer b []) (sym c.new-rest.ensures) is.spelled) in
          let same : IsSameAnswer b a = rw c.in-Some.is at r.0 in
          false≢true (sym wrong ∙ c.in_ok-_holds.ensures.exact.1 (same_witness x b a same witness))))
    ]
