use Rattle.std.proofs.Common.{◌≡◌, ◌<◌, ℕ, List, [], length, get_or, Vec, Global, arith, subst, sym, ap, ◌∙◌}
use Rattle.std.proofs.Common.{below_more}
use Rattle.std.proofs.lemmas.List.{length-map}
use Rattle.std.proofs.lemmas.Bool.{both_ways}
use Rattle.relations.specs.Relation.{Related}
use Rattle.labels.specs.Certified.{lists_of}
use Rattle.search.specs.Cycles.{ClosesAt}
use Rattle.search.proofs.Labels.{row_seen}
use Rattle.search.proofs.least.first_event.Goals as goal

pub closes_at-requires : goal.closes_at-requires
closes_at-requires c =
    let at : c.loop-v.v < length c.args.relation.now =
    omega (arith, c.requires.one_each, length-map c.args.rows.now (λ (r : Vec ℕ Global). r.items)) in
    let in_rows : c.loop-v.v < length c.args.rows.now = omega arith in
    let is : get_or (lists_of c.args.rows.now) c.loop-v.v [] ≡ c.deref.result.now =
    row_seen c.args.rows.now c.loop-v.v c.index-rows-v.result in_rows c.index-rows-v.is
    ∙ sym c.deref.ensures.value in
    ap (λ (row : List ℕ). length row) (sym is) ∙ c.requires.lengths c.loop-v.v at

pub loop-v-preserved : goal.loop-v-preserved
loop-v-preserved c =
    let at : c.loop-v.v < length c.args.relation.now =
    omega (arith, c.requires.one_each, length-map c.args.rows.now (λ (r : Vec ℕ Global). r.items)) in
    let in_rows : c.loop-v.v < length c.args.rows.now = omega arith in
    let is : get_or (lists_of c.args.rows.now) c.loop-v.v [] ≡ c.deref.result.now =
    row_seen c.args.rows.now c.loop-v.v c.index-rows-v.result in_rows c.index-rows-v.is
    ∙ sym c.deref.ensures.value in
    below_more _ _ c.loop-v.invariant (λ closes. both_ways c.closes_at.result c.if-closes_at.false
    (c.closes_at.ensures.1 (subst (λ (row : List ℕ). ClosesAt (Related c.args.relation.now) c.loop-v.v row
    c.args.label) is closes)))

pub returns : goal.returns
returns c = λ v at. c.loop-v.invariant v
    (omega (arith, at, c.requires.one_each, length-map c.args.rows.now (λ (r : Vec ℕ Global). r.items)))

pub returns-then-closes_at : goal.returns-then-closes_at
returns-then-closes_at c =
    let at : c.loop-v.v < length c.args.relation.now =
    omega (arith, c.requires.one_each, length-map c.args.rows.now (λ (r : Vec ℕ Global). r.items)) in
    let in_rows : c.loop-v.v < length c.args.rows.now = omega arith in
    let is : get_or (lists_of c.args.rows.now) c.loop-v.v [] ≡ c.deref.result.now =
    row_seen c.args.rows.now c.loop-v.v c.index-rows-v.result in_rows c.index-rows-v.is
    ∙ sym c.deref.ensures.value in (
      at,
      subst (λ (row : List ℕ). ClosesAt (Related c.args.relation.now) c.loop-v.v row c.args.label) (sym is)
          (c.closes_at.ensures.0 c.if-closes_at.true),
      c.loop-v.invariant,
    )
