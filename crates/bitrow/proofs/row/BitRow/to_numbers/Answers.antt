use Rattle.std.proofs.Common.{◌≡◌, ◌+◌, ◌∙◌, ℕ, List, Vec, Global, ap, arith, length, subst, sym}
use Rattle.bitrow.specs.Rows.{AreNumbersBelow}
use Rattle.bitrow.proofs.Listed.{listed_none, listed_not, listed_more}
use Rattle.bitrow.proofs.Members.{row_length}
use Rattle.bitrow.proofs.row.BitRow.to_numbers.Goals as goal
use Rattle.bitrow.proofs.row.BitRow.to_numbers.Goals.{then-test+in_ok-push, else-test}

pub loop-number-init : goal.loop-number-init
loop-number-init c =
    subst (λ (l : List ℕ). AreNumbersBelow 0 c.args.self.now l) (sym c.new-numbers.ensures.items)
    (listed_none c.args.self.now)

pub test-requires : goal.test-requires
test-requires c = omega (
  arith,
  c.loop-number-test.true,
  row_length c.self.inside.words.items c.self.inside.len c.args.self.now c.self.view_is,
)

pub loop-number-preserved : goal.loop-number-preserved
loop-number-preserved c =
    let items : Vec ℕ Global → List ℕ = λ v. v.items in
    let number : ℕ = c.loop-number.number in
    elim c.if-test.branch [
      | then-test+in_ok-push w ↦
          subst (λ (l : List ℕ). AreNumbersBelow (number + 1) c.args.self.now l)
          (sym (ap items w.numbers-is ∙ w.in_ok-push.ensures.items))
          (listed_more c.args.self.now number c.loop-number.numbers.items c.loop-number.invariant
          (sym c.test.ensures ∙ w.if-test.true))
      | else-test w ↦
          subst (λ (l : List ℕ). AreNumbersBelow (number + 1) c.args.self.now l) (sym (ap items w.numbers-is))
          (listed_not c.args.self.now number c.loop-number.numbers.items c.loop-number.invariant
          (sym c.test.ensures ∙ w.if-test.false))
    ]

pub returns : goal.returns
returns c =
    let size = row_length c.self.inside.words.items c.self.inside.len c.args.self.now c.self.view_is in
    let all : c.loop-number.number ≡ length c.args.self.now =
    omega (arith, size, c.loop-number-test.false, c.loop-number.auto.number-end) in
    subst (λ (n : ℕ). AreNumbersBelow n c.args.self.now c.loop-number.numbers.items) all c.loop-number.invariant
