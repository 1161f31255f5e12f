use Rattle.std.proofs.Common.{◌≡◌, ◌<◌, true, false, Bool, List, arith, sym, subst, ◌∙◌}
use Rattle.completion.specs.Left.{member_count}
use Rattle.completion.proofs.Fed.{leaves_twice, row_below, stays_more}
use Rattle.completion.proofs.MemberCounts.{fewer_members}
use Rattle.completion.proofs.dropping.drop_each_unfed.Goals as goal
use Rattle.completion.proofs.dropping.drop_each_unfed.Goals.{then-drop_unfed, else-drop_unfed}

pub loop-e-preserved : goal.loop-e-preserved
loop-e-preserved c = record {
  size = c.drop_unfed.ensures.size ∙ c.loop-e.invariant.size;
  leaves = leaves_twice c.args.values.now c.args.row.now c.loop-e.row c.drop_unfed.new.row c.loop-e.invariant.leaves
      c.drop_unfed.ensures.leaves;
  fewer = λ some. elim c.if-drop_unfed.branch [
    | then-drop_unfed w ↦ omega (
      arith,
      c.drop_unfed.ensures.fewer w.if-drop_unfed.true,
      fewer_members c.loop-e.row c.args.row.now (c.loop-e.invariant.size ∙ sym c.requires.row)
          c.loop-e.invariant.leaves.fewer,
    )
    | else-drop_unfed w ↦ subst (λ (r : List Bool). member_count r < member_count c.args.row.now)
        (sym (c.drop_unfed.ensures.same w.if-drop_unfed.false)) (c.loop-e.invariant.fewer (sym w.dropped-is ∙ some))
  ];
  fed = λ none. elim c.if-drop_unfed.branch [
    | then-drop_unfed w ↦ absurd (let clash : true ≡ false = sym w.dropped-is ∙ none in cc)
    | else-drop_unfed w ↦ stays_more c.args.values.now c.loop-e.row c.drop_unfed.new.row c.loop-e.e
        (c.drop_unfed.ensures.same w.if-drop_unfed.false)
        (c.loop-e.invariant.fed (sym w.dropped-is ∙ none))
        (c.drop_unfed.ensures.stays w.if-drop_unfed.false)
  ];
}

pub returns-clause-fed : goal.returns-clause-fed
returns-clause-fed c none e s inside may = c.loop-e.invariant.fed none e s (omega (
  arith,
  row_below c.loop-e.row e inside,
  c.loop-e.invariant.size,
  c.loop-e-test.false,
  c.loop-e.auto.e-end,
)) inside may
