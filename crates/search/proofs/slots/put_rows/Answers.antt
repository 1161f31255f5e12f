use Rattle.std.proofs.Common.{All, sym, subst}
use Rattle.std.specs.Vec.Iter.{into_iter_items}
use Rattle.std.proofs.lemmas.List.Elements.{All-head, All-rest}
use Rattle.search.specs.WorkerJobs.{IsRowFor}
use Rattle.search.proofs.slots.put_rows.Goals as goal

pub loop-row-init : goal.loop-row-init
loop-row-init c = λ t lengths rows slots. (
  slots,
  subst (All (IsRowFor t lengths)) (sym c.into_iter-row-iterator.ensures.into_iter_gives.0) rows,
)

pub loop-row-preserved : goal.loop-row-preserved
loop-row-preserved c = λ t lengths rows slots.
    let inv = c.loop-row.invariant t lengths rows slots in
    let steps = c.in-Some.ensures.steps.0 in
    let rest = into_iter_items c.next.new.self in (
      c.put_row.ensures t lengths (All-head (IsRowFor t lengths) c.in-Some.row rest
          (subst (All (IsRowFor t lengths)) steps inv.1)) inv.0,
      All-rest (IsRowFor t lengths) c.in-Some.row rest (into_iter_items c.loop-row.row-iterator) steps inv.1,
    )

pub returns : goal.returns
returns c = λ t lengths rows slots. (c.loop-row.invariant t lengths rows slots).0
