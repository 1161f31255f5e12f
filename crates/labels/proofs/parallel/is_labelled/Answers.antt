use Rattle.std.proofs.Common.{◌≡◌, ◌↔◌, List, ℕ, IsTrue, [], get_or, length, arith, sym, subst, ◌∙◌}
use Rattle.relations.specs.Relation.{Related}
use Rattle.relations.specs.Cycle.{IsLabelling}
use Rattle.labels.specs.Certified.{lists_of}
use Rattle.labels.proofs.Rows.{row_seen}
use Rattle.labels.proofs.parallel.is_labelled.Goals as goal

pub returns : goal.returns
returns c =
    let t = c.args.relation.now in
    let is : get_or (lists_of c.args.rows.now) c.args.v [] ≡ c.as_slice-labels.result.now =
    row_seen c.args.rows.now c.args.v c.index-rows-v.result (omega (arith, c.requires.one_each, c.requires.v))
    c.index-rows-v.is ∙ sym c.as_slice-labels.ensures.value in
    subst (λ (row : List ℕ). IsTrue c.is_labelling.result
    ↔ IsLabelling (Related t) c.args.size (length t) c.args.v row) (sym is) c.is_labelling.ensures
