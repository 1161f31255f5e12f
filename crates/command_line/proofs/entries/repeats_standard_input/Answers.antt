use Rattle.std.proofs.Common.{◌∙◌, codes, sym}
use Rattle.std.specs.Str.{bytes_eq}
use Rattle.command_line.proofs.Added.{counted_no, counted_yes}
use Rattle.command_line.proofs.entries.repeats_standard_input.Goals as goal
use Rattle.command_line.proofs.entries.repeats_standard_input.Goals.{then-eq, else-eq}

pub loop-name-preserved : goal.loop-name-preserved
loop-name-preserved c = elim c.if-eq.branch [
  | then-eq w ↦ w.count-is
      ∙ counted_yes (λ name. bytes_eq name (codes "-")) (λ v. v.now) c.in-Some.names.now c.loop-name.name-index _
      c.loop-name.count c.loop-name-test.true c.loop-name.invariant (sym c.eq.ensures ∙ w.if-eq.true)
  | else-eq w ↦ w.count-is
      ∙ counted_no (λ name. bytes_eq name (codes "-")) (λ v. v.now) c.in-Some.names.now c.loop-name.name-index _
      c.loop-name.count c.loop-name-test.true c.loop-name.invariant (sym c.eq.ensures ∙ w.if-eq.false)
]
