use Rattle.std.proofs.Common.{◌<◌, ◌≤◌, inl, inr, List, ℕ, length, refl, arith, rules, tests}
use Rattle.std.proofs.lemmas.Bool.{cases_lt, false≢true}
use Rattle.std.specs.Prelude.{◌↔◌}
use Rattle.std.specs.BinaryHeap.{heap_items}
use Rattle.long.proofs.Queues.{IsOver, over_by_top, over_none}
use Rattle.long.proofs.queue.is_over.Goals as goal

pub returns-in-Some : goal.returns-in-Some
returns-in-Some c = λ heap.
    let keys : List ℕ = heap_items c.args.heap.now in
    let some : 0 < length keys = omega (arith, c.in-Some.ensures.variant.0 refl, c.args.heap.now.data.ok.0) in
    let tells : (c.in-Some.top.now ≤ c.args.key) ↔ IsOver keys c.args.key =
    over_by_top keys c.in-Some.top.now c.args.key (c.in-Some.ensures.greatest heap) some c.in-Some.ensures.lookup in
    search (rules, tests)

pub returns-in-None : goal.returns-in-None
returns-in-None c = λ heap.
    let keys : List ℕ = heap_items c.args.heap.now in (
      λ _. elim (cases_lt 0 (length keys)) [
        | inl some ↦
            absurd (false≢true (c.in-None.ensures.variant.1 (omega (arith, some, c.args.heap.now.data.ok.0))))
        | inr none ↦ over_none keys c.args.key (omega (arith, none))
      ],
      λ _. refl,
    )
