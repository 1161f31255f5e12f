use Rattle.std.proofs.Common.{◌≡◌, ◌<◌, ◌≤◌, ◌+◌, ◌-◌, ◌++◌, ◌∷◌, ℕ, List, [], get_or, set, length, length-set, arith}
use Rattle.std.proofs.Common.{sym, subst, ap, ◌∙◌}
use Rattle.recording.specs.Execution.{event_count}
use Rattle.order.specs.Open.{IsOpen}
use Rattle.order.proofs.Greedy.{IsGreedy, greedy_none}
use Rattle.long.specs.Chains.{times_kept}
use Rattle.long.specs.Sorted.{IsLeft}
use Rattle.long.proofs.Lists.{length_push}
use Rattle.long.proofs.Sorts.{events_left, first_order, pairs_within, place_room, placed_more}
use Rattle.long.proofs.sorting.sort.Goals as goal

pub loop-placed-init : goal.loop-placed-init
loop-placed-init c =
    let n : ℕ = event_count c.args.recording.now in
    let p = c.in_ok-pairs.pairs in
    let none : c.in_ok-order.order.items ≡ [] = c.in_ok-order.ensures.items in
    record {
      size = ap (λ (l : List ℕ). length l) none;
      forced = c.in_ok-pairs.ensures.forced;
      enough = c.in_ok-pairs.ensures.enough;
      greedy = subst (λ (l : List ℕ). IsGreedy (times_kept p) n l) (sym none) (greedy_none (times_kept p) n);
      waiting = subst (λ (l : List ℕ). IsOpen (times_kept p) n l c.in_ok-waiting.waiting) (sym none)
          (subst (λ (l : List ℕ). IsOpen (times_kept p) n [] l) (sym c.in_ok-waiting.ensures)
          c.in_ok-pairs.ensures.open);
    }

pub returns-in_default : goal.returns-in_default
returns-in_default c = λ _. subst (λ (l : List ℕ). IsLeft c.args.recording.now (record {
  pairs = c.loop-placed.pairs;
  waiting = l;
})) (sym c.in_default.ensures.counts)
    (events_left c.args.recording.now c.sound.ensures c.loop-placed.pairs
    c.loop-placed.order.items c.loop-placed.waiting c.loop-placed.invariant.forced c.loop-placed.invariant.greedy
    c.loop-placed.invariant.waiting c.in_default.ensures.free
    (omega (arith, c.loop-placed.invariant.size, c.loop-placed-test.true, c.len-placed-end.ensures)))

pub place-requires-clause-within : goal.place-requires-clause-within
place-requires-clause-within c = λ f some. omega (
  arith,
  (pairs_within c.args.recording.now c.sound.ensures.well_formed c.loop-placed.pairs c.loop-placed.invariant.forced
      c.in-Some.event f some).1,
  c.loop-placed.invariant.waiting.size,
  ap (λ (l : List ℕ). length l) c.in-Some.ensures.counts,
  length-set c.loop-placed.waiting c.in-Some.event 0,
)

pub place-requires-clause-open : goal.place-requires-clause-open
place-requires-clause-open c =
    let x = c.args.recording.now in
    let p = c.loop-placed.pairs in
    let v = c.in-Some.event in
    let free = c.in-Some.ensures.free in
    subst (λ (l : List ℕ). (f : ℕ) → 0 < times_kept p v f → times_kept p v f + 1 ≤ get_or l f 0)
    (sym c.in-Some.ensures.counts)
    (place_room p (event_count x) c.loop-placed.order.items c.loop-placed.waiting c.loop-placed.invariant.greedy
    c.loop-placed.invariant.waiting v (omega (arith, free.0, c.loop-placed.invariant.waiting.size)) free.1
    (pairs_within x c.sound.ensures.well_formed p c.loop-placed.invariant.forced))

pub loop-placed-preserved : goal.loop-placed-preserved
loop-placed-preserved c =
    let x = c.args.recording.now in
    let n : ℕ = event_count x in
    let p = c.loop-placed.pairs in
    let v = c.in-Some.event in
    let old = c.loop-placed.waiting in
    let order = c.loop-placed.order.items in
    let free = c.in-Some.ensures.free in
    let taken : c.take.new.self ≡ set old v 0 = c.in-Some.ensures.counts in
    let pushed : c.push.new.self.items ≡ order ++ v ∷ [] = c.in_ok-push.ensures.items in
    let fewer : (f : ℕ) → get_or c.place.new.self f 0 ≡ get_or (set old v 0) f 0 - times_kept p v f =
    subst (λ (l : List ℕ). (f : ℕ) → get_or c.place.new.self f 0 ≡ get_or l f 0 - times_kept p v f) taken
    c.in_ok-place.ensures.fewer in
    let both = placed_more p n order old c.loop-placed.invariant.greedy c.loop-placed.invariant.waiting v
    (omega (arith, free.0, c.loop-placed.invariant.waiting.size)) free.1 c.place.new.self
    (pairs_within x c.sound.ensures.well_formed p c.loop-placed.invariant.forced)
    (omega (arith, c.loop-placed.invariant.size, c.loop-placed-test.true, c.len-placed-end.ensures)) free.2
    (c.in_ok-place.ensures.size ∙ ap (λ (l : List ℕ). length l) taken) fewer in
    record {
      size = omega (
        arith,
        ap (λ (l : List ℕ). length l) pushed,
        length_push order v,
        c.loop-placed.invariant.size,
      );
      forced = c.loop-placed.invariant.forced;
      enough = c.loop-placed.invariant.enough;
      greedy = subst (λ (l : List ℕ). IsGreedy (times_kept p) n l) (sym pushed) both.0;
      waiting = subst (λ (l : List ℕ). IsOpen (times_kept p) n l c.place.new.self) (sym pushed) both.1;
    }

pub returns : goal.returns
returns c = λ none. first_order c.args.recording.now c.sound.ensures.well_formed none c.loop-placed.pairs
    c.loop-placed.order.items c.loop-placed.invariant.forced c.loop-placed.invariant.enough
    c.loop-placed.invariant.greedy (omega (
      arith,
      c.loop-placed.invariant.size,
      c.loop-placed-test.false,
      c.loop-placed.auto.placed-end,
      c.len-placed-end.ensures,
    ))
