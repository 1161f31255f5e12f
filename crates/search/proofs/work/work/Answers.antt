use Rattle.std.proofs.Common.{◌≡◌, ◌∙◌, All, sym, subst}
use Rattle.std.specs.Vec.Iter.{into_iter_items}
use Rattle.std.proofs.lemmas.List.Elements.{All-head, All-rest}
use Rattle.relations.specs.Relation.{Table}
use Rattle.search.specs.Bound.{lengths_of}
use Rattle.search.specs.SourceRow.{Job}
use Rattle.search.specs.WorkerJobs.{IsRowFor}
use Rattle.search.proofs.work.work.Goals as goal

pub loop-job-preserved : goal.loop-job-preserved
loop-job-preserved g c =
    let t : Table = c.args.relation.now in
    let steps = c.in-Some.ensures.steps.0 in
    let inv = c.loop-job.invariant in
    let rest = into_iter_items c.next.new.self in
    let is : c.in-Some.job.relation ≡ t = All-head (λ (job : Job). job.relation ≡ t) c.in-Some.job rest
    (subst (All (λ (job : Job). job.relation ≡ t)) steps inv.2) in (
      (c.make_row.ensures.seat.0, c.make_row.ensures.seat.1 ∙ is),
      subst (λ (x : Table). All (IsRowFor x (lengths_of c.make_row.new.seat)) c.make_row.new.rows.items) is
          c.make_row.ensures.rows,
      All-rest (λ (job : Job). job.relation ≡ t) c.in-Some.job rest (into_iter_items c.loop-job.job-iterator)
          steps inv.2,
    )

pub returns : goal.returns
returns g c =
    let inv = c.loop-job.invariant in
    let of = sym c.requires.0.1 in (
      inv.0.0 ∙ sym c.requires.0.0,
      inv.0.1 ∙ of,
      subst (λ (x : Table). All (IsRowFor x (lengths_of c.loop-job.seat)) c.loop-job.rows.items) of inv.1,
    )
