use Rattle.std.proofs.Common.{◌≡◌, ◌∙◌, ℕ, Option, None, All, IfOk, List, [], length, sym, subst, arith}
use Rattle.relations.specs.Relation.{Table, Related}
use Rattle.best.specs.Seats.{known_of}
use Rattle.search.specs.SourceRow.{SourceRow, Job, AreLeastRows}
use Rattle.search.specs.Bound.{KnowsShortest, lengths_of}
use Rattle.search.proofs.Labels.{least_none}
use Rattle.search.proofs.collect.run_jobs.Goals as goal

pub returns-then-is_empty-clause-rows : goal.returns-then-is_empty-clause-rows
returns-then-is_empty-clause-rows g c =
    let t = (known_of c.args.seat.now).relation in
    let none : length c.args.jobs.items ≡ 0 = grind (arith, c.is_empty.ensures, c.if-is_empty.true) in (
      None,
      subst (λ (rows : List SourceRow). AreLeastRows t None rows) (sym c.new.ensures.items)
          (least_none t c.args.jobs.items none c.requires.jobs),
    )

pub returns-then-is_empty-clause-knows : goal.returns-then-is_empty-clause-knows
returns-then-is_empty-clause-knows g c =
    let none : length c.args.jobs.items ≡ 0 = grind (arith, c.is_empty.ensures, c.if-is_empty.true) in
    let rows : AreLeastRows (known_of c.args.seat.now).relation None [] =
    least_none (known_of c.args.seat.now).relation c.args.jobs.items none c.requires.jobs in
    λ k short. absurd (rows.least short.0 short.1.cycle)

pub collect_rows-requires-clause-seat : goal.collect_rows-requires-clause-seat
collect_rows-requires-clause-seat g c κs within =
    (c.requires.seat, sym (c.in_ok-relation.ensures (known_of c.args.seat.now).relation c.requires.jobs.shared))

pub collect_rows-requires-clause-jobs : goal.collect_rows-requires-clause-jobs
collect_rows-requires-clause-jobs g c κs within =
    subst (λ (t : Table). All (λ (job : Job). job.relation ≡ t) c.args.jobs.items)
    (sym (c.in_ok-relation.ensures (known_of c.args.seat.now).relation c.requires.jobs.shared))
    c.requires.jobs.shared

pub returns-clause-seat : goal.returns-clause-seat
returns-clause-seat g c = (
  c.collect_rows.ensures.seat.0,
  c.collect_rows.ensures.seat.1 ∙ c.in_ok-relation.ensures (known_of c.args.seat.now).relation
      c.requires.jobs.shared,
)

pub returns-clause-kept : goal.returns-clause-kept
returns-clause-kept g c = c.collect_rows.ensures.kept

pub returns-clause-rows : goal.returns-clause-rows
returns-clause-rows g c =
    subst (λ (t : Table). IfOk c.collect_rows.result (λ rows. (cap : Option ℕ) × AreLeastRows t cap rows.items))
    (c.in_ok-relation.ensures (known_of c.args.seat.now).relation c.requires.jobs.shared)
    c.collect_rows.ensures.rows

pub returns-clause-knows : goal.returns-clause-knows
returns-clause-knows g c =
    subst (λ (t : Table). IfOk c.collect_rows.result
    (λ _. KnowsShortest (Related t) (lengths_of c.collect_rows.new.seat)))
    (c.in_ok-relation.ensures (known_of c.args.seat.now).relation c.requires.jobs.shared)
    c.collect_rows.ensures.knows
