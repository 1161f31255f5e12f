use Rattle.std.proofs.Common.{◌≡◌, ◌∙◌, ℕ, Option, All, List, Contains, length, sym, ap, subst}
use Rattle.std.specs.Vec.Iter.{into_iter_items}
use Rattle.std.proofs.lemmas.List.Elements.{All-head, All-rest}
use Rattle.best.specs.declared.rule.Known.{Known}
use Rattle.best.specs.Seats.{known_of}
use Rattle.search.specs.WorkerJobs.{AreRowsFor}
use Rattle.search.proofs.WorkerRows.{rows_kept}
use Rattle.search.proofs.Collected.{unites_left, unites_right, slots_kept}
use Rattle.relations.specs.Relation.{Table, Related}
use Rattle.search.specs.SourceRow.{Job, AreLeastRows}
use Rattle.search.specs.Bound.{KnowsShortest, lengths_of}
use Rattle.search.specs.Slots.{AreSlots, AreSlotsFilled}
use Rattle.search.proofs.collect.collect_rows.Goals as goal

pub rows_by_workers-requires-clause-seat : goal.rows_by_workers-requires-clause-seat
rows_by_workers-requires-clause-seat g c κs within = (c.requires.seat.0, c.requires.seat.1 ∙ sym c.deref-table.ensures)

pub rows_by_workers-requires-clause-jobs : goal.rows_by_workers-requires-clause-jobs
rows_by_workers-requires-clause-jobs g c κs within =
    subst (λ (t : Table). All (λ (job : Job). job.relation ≡ t) c.args.jobs.items)
    (sym c.deref-table.ensures) c.requires.jobs

pub returns-in_err-rows_of_workers-clause-seat : goal.returns-in_err-rows_of_workers-clause-seat
returns-in_err-rows_of_workers-clause-seat g c =
    (c.rows_by_workers.ensures.seat.0, c.rows_by_workers.ensures.seat.1 ∙ c.deref-table.ensures)

pub returns-in_err-rows_of_workers-clause-kept : goal.returns-in_err-rows_of_workers-clause-kept
returns-in_err-rows_of_workers-clause-kept g c = λ k h. subst (λ (lengths : List ℕ). Contains lengths k)
    (sym c.rows_by_workers.ensures.kept) h

pub returns-in_err-slots-clause-seat : goal.returns-in_err-slots-clause-seat
returns-in_err-slots-clause-seat g c =
    (c.rows_by_workers.ensures.seat.0, c.rows_by_workers.ensures.seat.1 ∙ c.deref-table.ensures)

pub returns-in_err-slots-clause-kept : goal.returns-in_err-slots-clause-kept
returns-in_err-slots-clause-kept g c = λ k h. subst (λ (lengths : List ℕ). Contains lengths k)
    (sym c.rows_by_workers.ensures.kept) h

pub absorb-requires : goal.absorb-requires
absorb-requires g c =
    let inv = c.loop-worker_rows.invariant in
    let fits = AreRowsFor c.args.best.now c.deref-table.result.now in
    let rest = into_iter_items c.next.new.self in
    let mine = All-head fits c.in-Some.worker_rows rest (subst (All fits) c.in-Some.ensures.steps.0 inv.3) in
    mine.0.0 ∙ sym inv.0.0

pub loop-worker_rows-preserved : goal.loop-worker_rows-preserved
loop-worker_rows-preserved g c =
    let t = c.deref-table.result.now in
    let inv = c.loop-worker_rows.invariant in
    let fits = AreRowsFor c.args.best.now t in
    let steps = c.in-Some.ensures.steps.0 in
    let rest = into_iter_items c.next.new.self in
    let mine = All-head fits c.in-Some.worker_rows rest (subst (All fits) steps inv.3) in
    let before = known_of c.loop-worker_rows.seat in
    let other = known_of c.in-Some.worker_rows.seat in
    let after = known_of c.absorb.new.self in
    let lengths = lengths_of c.absorb.new.self in
    let left = unites_left before other after c.absorb.ensures.1 in (
      (c.absorb.ensures.0 ∙ inv.0.0, ap (λ (v : Known). v.relation) c.absorb.ensures.1 ∙ inv.0.1),
      (λ k h. left k (inv.1 k h)),
      c.put_rows.ensures t lengths
          (rows_kept t (lengths_of c.in-Some.worker_rows.seat) lengths c.in-Some.worker_rows.rows.items
          (unites_right before other after c.absorb.ensures.1) mine.1)
          (slots_kept t (lengths_of c.loop-worker_rows.seat) lengths c.loop-worker_rows.slots.items left inv.2),
      All-rest fits c.in-Some.worker_rows rest (into_iter_items c.loop-worker_rows.worker_rows-iterator) steps inv.3,
    )

pub fill_rows-requires-clause-seat : goal.fill_rows-requires-clause-seat
fill_rows-requires-clause-seat g c κs within =
    (c.loop-worker_rows.invariant.0.0, c.loop-worker_rows.invariant.0.1 ∙ c.deref-table.ensures)

pub fill_rows-requires-clause-slots : goal.fill_rows-requires-clause-slots
fill_rows-requires-clause-slots g c κs within =
    subst (λ (t : Table). AreSlots t (lengths_of c.loop-worker_rows.seat) c.loop-worker_rows.slots.items)
    c.deref-table.ensures c.loop-worker_rows.invariant.2

pub returns-in_err-rows-clause-seat : goal.returns-in_err-rows-clause-seat
returns-in_err-rows-clause-seat g c = c.fill_rows.ensures.seat

pub returns-in_err-rows-clause-kept : goal.returns-in_err-rows-clause-kept
returns-in_err-rows-clause-kept g c = λ k h. c.fill_rows.ensures.kept k (c.loop-worker_rows.invariant.1 k
    (subst (λ (lengths : List ℕ). Contains lengths k) (sym c.rows_by_workers.ensures.kept) h))

pub cut_by-requires-clause-seat : goal.cut_by-requires-clause-seat
cut_by-requires-clause-seat g c = (c.fill_rows.ensures.seat.0, c.fill_rows.ensures.seat.1 ∙ sym c.deref-table.ensures)

pub cut_by-requires-clause-rows : goal.cut_by-requires-clause-rows
cut_by-requires-clause-rows g c =
    subst (λ (t : Table). AreSlotsFilled t (lengths_of c.fill_rows.new.seat) (length t) c.in_ok-rows.rows.items)
    (sym c.deref-table.ensures) c.in_ok-rows.ensures.rows

pub returns-clause-seat : goal.returns-clause-seat
returns-clause-seat g c = (c.cut_by.ensures.seat.0, c.cut_by.ensures.seat.1 ∙ c.deref-table.ensures)

pub returns-clause-kept : goal.returns-clause-kept
returns-clause-kept g c = λ k h. c.cut_by.ensures.kept k (c.fill_rows.ensures.kept k (c.loop-worker_rows.invariant.1 k
    (subst (λ (lengths : List ℕ). Contains lengths k) (sym c.rows_by_workers.ensures.kept) h)))

pub returns-clause-rows : goal.returns-clause-rows
returns-clause-rows g c =
    subst (λ (t : Table). (cap : Option ℕ) × AreLeastRows t cap c.cut_by.result.items) c.deref-table.ensures
    c.cut_by.ensures.rows

pub returns-clause-knows : goal.returns-clause-knows
returns-clause-knows g c =
    subst (λ (t : Table). KnowsShortest (Related t) (lengths_of c.cut_by.new.seat)) c.deref-table.ensures
    c.cut_by.ensures.knows
