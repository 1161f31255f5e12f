use Rattle.std.proofs.Common.{◌<◌, ℕ, [], get_or, length, Vec, Global, arith}
use Rattle.std.proofs.lemmas.List.{length-map}
use Rattle.relations.specs.Relation.{Related}
use Rattle.relations.specs.Cycle.{IsLabelling}
use Rattle.rayon.proofs.ToStd.{nat_range-All}
use Rattle.labels.specs.Certified.{lists_of}
use Rattle.labels.proofs.Below.{each_below}
use Rattle.labels.proofs.parallel.are_labelled.Goals as goal

pub all-requires-clause-items : goal.all-requires-clause-items
all-requires-clause-items g c κs within =
    let ends = c.into_par_iter.ensures in
    let inside = nat_range-All (λ i. i < length c.args.relation.now) 0 (length c.args.rows.now)
    (λ i from below. omega arith) in
    rw (c.with_min_len.ensures.base, ends.0, ends.1)
    (λ k d here. (c.sound.ensures.square.few, (omega arith, inside k d here)))

pub returns : goal.returns
returns g c =
    let ends = c.into_par_iter.ensures in
    let t = c.args.relation.now in
    let each = each_below (length c.args.rows.now)
    (λ v. IsLabelling (Related t) c.args.size (length t) v (get_or (lists_of c.args.rows.now) v []))
    c.all.result c.all.ensures.0 (rw (c.with_min_len.ensures.base, ends.0, ends.1) at c.all.ensures.1)
    c.all.ensures.2 in (
      λ yes. record {
        one_each = omega (arith, length-map c.args.rows.now (λ (row : Vec ℕ Global). row.items));
        labellings = λ v low. each.0 yes v (omega arith);
      },
      λ are. each.1 (λ v low. are.labellings v (omega arith)),
    )
