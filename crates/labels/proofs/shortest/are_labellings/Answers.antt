use Rattle.std.proofs.Common.{◌≡◌, ℕ, List, [], length, get_or, arith, sym, subst, ◌∙◌, below_more}
use Rattle.std.proofs.lemmas.Bool.{both_ways}
use Rattle.relations.specs.Relation.{Related}
use Rattle.relations.specs.Cycle.{IsLabelling}
use Rattle.labels.specs.Certified.{lists_of}
use Rattle.labels.proofs.Rows.{row_seen}
use Rattle.labels.proofs.shortest.are_labellings.Goals as goal

pub returns-then-not-is_labelling : goal.returns-then-not-is_labelling
returns-then-not-is_labelling c =
    let is : get_or (lists_of c.args.rows.now) c.loop-v.v [] ≡ c.deref.result.now =
    row_seen c.args.rows.now c.loop-v.v c.index-rows-v.result (omega arith) c.index-rows-v.is
    ∙ sym c.deref.ensures.value in (
      λ h. cc,
      λ all. absurd (both_ways c.is_labelling.result c.if-not-is_labelling.true (c.is_labelling.ensures.1
          (subst (λ (row : List ℕ). IsLabelling (Related c.args.relation.now) c.args.size
          (length c.args.relation.now) c.loop-v.v row) is (all.labellings c.loop-v.v (omega arith))))),
    )

pub loop-v-preserved : goal.loop-v-preserved
loop-v-preserved c =
    let is : get_or (lists_of c.args.rows.now) c.loop-v.v [] ≡ c.deref.result.now =
    row_seen c.args.rows.now c.loop-v.v c.index-rows-v.result (omega arith) c.index-rows-v.is
    ∙ sym c.deref.ensures.value in
    below_more _ _ c.loop-v.invariant (subst (λ (row : List ℕ). IsLabelling
    (Related c.args.relation.now) c.args.size (length c.args.relation.now) c.loop-v.v row) (sym is)
    (c.is_labelling.ensures.0 c.if-not-is_labelling.false))
