use Rattle.std.proofs.Common.{All, sym, subst}
use Rattle.std.specs.Vec.Iter.{into_iter_items}
use Rattle.std.proofs.lemmas.List.Elements.{All-head, All-rest}
use Rattle.search.specs.WorkerJobs.{AreRowsFor}
use Rattle.search.specs.Started.{IsStarted}
use Rattle.search.proofs.WorkerRows.{rows_for, perhaps_pushed}
use Rattle.search.proofs.work.join_all.Goals as goal

pub loop-child-init : goal.loop-child-init
loop-child-init g c = λ b t children others. (
  others,
  subst (All (IsStarted b t)) (sym c.into_iter-child-iterator.ensures.into_iter_gives.0) children,
)

pub loop-child-preserved : goal.loop-child-preserved
loop-child-preserved g c = λ b t children others.
    let inv = c.loop-child.invariant b t children others in
    let steps = c.in-Some.ensures.steps.0 in
    let rest = into_iter_items c.next.new.self in (
      perhaps_pushed (AreRowsFor b t) _ c.loop-child.rows_of_workers.items c.push-kept.new.self.items
          c.join-worker_rows.result c.push-kept.ensures.items inv.0
          (rows_for b t c.in-Some.child.promise.0.value c.join-worker_rows.result
          (All-head (IsStarted b t) c.in-Some.child rest (subst (All (IsStarted b t)) steps inv.1))
          c.join-worker_rows.ensures),
      All-rest (IsStarted b t) c.in-Some.child rest (into_iter_items c.loop-child.child-iterator) steps inv.1,
    )

pub loop-child-preserved-in-Some : goal.loop-child-preserved-in-Some
loop-child-preserved-in-Some g c = λ b t children others.
    let inv = c.loop-child.invariant b t children others in
    let steps = c.in-Some.ensures.steps.0 in
    let rest = into_iter_items c.next.new.self in (
      perhaps_pushed (AreRowsFor b t) _ c.loop-child.rows_of_workers.items c.push-kept.new.self.items
          c.join-worker_rows.result c.push-kept.ensures.items inv.0
          (rows_for b t c.in-Some.child.promise.0.value c.join-worker_rows.result
          (All-head (IsStarted b t) c.in-Some.child rest (subst (All (IsStarted b t)) steps inv.1))
          c.join-worker_rows.ensures),
      All-rest (IsStarted b t) c.in-Some.child rest (into_iter_items c.loop-child.child-iterator) steps inv.1,
    )

pub returns : goal.returns
returns g c = λ b t children others. (c.loop-child.invariant b t children others).0
