use Rattle.std.proofs.Common.{◌≡◌, ◌+◌, ◌∙◌, ap, inl, inr, arith, sym}
use Rattle.std.specs.Prelude.{Bool, if◌then◌else◌}
use Rattle.verification.specs.declared.text_check.TextCheck.TheVariants.{FailsAt, EndsEarly}
use Rattle.verification.proofs.Differences.{ends, first_is, step, stops}
use Rattle.verification.proofs.printed.first_difference.Goals as goal
use Rattle.verification.proofs.printed.first_difference.Goals.{then-begins, else-begins}
use Rattle.verification.proofs.printed.first_difference.Goals.{then-i-printed-via-then-i-printed}
use Rattle.verification.proofs.printed.first_difference.Goals.{then-i-printed-via-else-i-printed+then-text-i}

pub loop-i-preserved : goal.loop-i-preserved
loop-i-preserved c =
    let l = c.loop-i in
    let inside = c.loop-i-test.true in
    elim c.if-begins.branch [
      | then-begins w ↦
          let line : c.if-begins.line ≡ l.line + 1 = omega (arith, w.line-is, l.invariant.small, inside) in record {
            same = step c.args.text.now c.args.printed.now l.i l.begins l.line c.if-begins.line inside
                c.if-i-printed.false c.if-text-i.false (inl (w.if-begins.true, line)) ∙ l.invariant.same;
            small = omega (arith, line, l.invariant.small);
          }
      | else-begins w ↦ record {
        same = step c.args.text.now c.args.printed.now l.i l.begins l.line c.if-begins.line inside c.if-i-printed.false
            c.if-text-i.false (inr (w.if-begins.false, w.line-is)) ∙ l.invariant.same;
        small = omega (arith, w.line-is, l.invariant.small);
      }
    ]

pub returns-then-i-printed : goal.returns-then-i-printed
returns-then-i-printed c =
    let text = c.args.text.now in
    let printed = c.args.printed.now in
    let l = c.loop-i in
    elim c.then-i-printed.branch [
      | then-i-printed-via-then-i-printed w ↦ first_is text printed (FailsAt l.line)
          (stops text printed l.i l.begins l.line c.loop-i-test.true (inl w.if-i-printed.true) ∙ l.invariant.same)
      | then-i-printed-via-else-i-printed+then-text-i w ↦ first_is text printed (FailsAt l.line)
          (stops text printed l.i l.begins l.line c.loop-i-test.true (inr w.if-text-i.true) ∙ l.invariant.same)
    ]

pub returns-then-begins-2 : goal.returns-then-begins-2
returns-then-begins-2 c =
    let l = c.loop-i in
    first_is c.args.text.now c.args.printed.now EndsEarly
    (sym (ap (λ (q : Bool). if q then EndsEarly else FailsAt l.line) c.if-begins-2.true)
    ∙ ends c.args.text.now c.args.printed.now l.i l.begins l.line c.loop-i-test.false ∙ l.invariant.same)

pub returns-else-begins-2 : goal.returns-else-begins-2
returns-else-begins-2 c =
    let l = c.loop-i in
    first_is c.args.text.now c.args.printed.now (FailsAt l.line)
    (sym (ap (λ (q : Bool). if q then EndsEarly else FailsAt l.line) c.if-begins-2.false)
    ∙ ends c.args.text.now c.args.printed.now l.i l.begins l.line c.loop-i-test.false ∙ l.invariant.same)
