use Rattle.std.proofs.Common.{subst, sym, ◌∙◌}
use Rattle.completion.specs.declared.left.Left.{Left}
use Rattle.completion.specs.Left.{IsRefuted}
use Rattle.completion.proofs.Alone.{table_size}
use Rattle.completion.proofs.part.cut.Goals as goal
use Rattle.completion.proofs.part.cut.Goals.{in-Some+in_ok-less+in-Less, in-Some+in_ok-less+in_default-2, in_default}

pub without_run-requires-clause-size : goal.without_run-requires-clause-size
without_run-requires-clause-size c =
    c.loop-run.invariant.left.size ∙ sym (table_size c.args.values.now c.args.table.now c.requires.table)

pub loop-run-preserved : goal.loop-run-preserved
loop-run-preserved c = elim c.match-branch-2.branch [
  | in-Some+in_ok-less+in-Less w ↦
      let refuted = rw w.in-Less.is at w.in_ok-less.ensures in
      subst (λ (l : Left). IsRefuted c.args.values.now l) (sym w.left-is) refuted.0
  | in-Some+in_ok-less+in_default-2 w ↦
      subst (λ (l : Left). IsRefuted c.args.values.now l) (sym w.left-is) c.loop-run.invariant
  | in_default w ↦ subst (λ (l : Left). IsRefuted c.args.values.now l) (sym w.left-is) c.loop-run.invariant
]
