use Rattle.std.proofs.Common.{◌≡◌, ◌<◌, ◌++◌, ◌∷◌, [], List, arith, length, length-append, ℕ, refl, sym, ap}
use Rattle.std.proofs.Common.{subst}
use Rattle.std.proofs.lemmas.Bool.{true≢false}
use Rattle.relations.specs.CycleLaws.{cycle_into}
use Rattle.relations.specs.Relation.{Related}
use Rattle.order.specs.Open.{relates_once, IsOpen}
use Rattle.order.proofs.Greedy.{IsBefore, IsGreedy, free_is_fresh, greedy_none, greedy_more, greedy_cycle, greedy_all}
use Rattle.order.proofs.Greedy.{least_alike}
use Rattle.order.proofs.Once.{once_related, related_once}
use Rattle.order.proofs.Waits.{open_more, IsReleased}
use Rattle.order.proofs.least.build.Goals as goal

pub first-requires : goal.first-requires
first-requires c = omega (arith, c.loop-placed.invariant.2.size, c.sound.ensures.square.few)

pub place-requires-clause-size : goal.place-requires-clause-size
place-requires-clause-size c = c.loop-placed.invariant.2.size

pub place-requires-clause-event : goal.place-requires-clause-event
place-requires-clause-event c = omega (arith, c.in-Some.ensures.0, c.loop-placed.invariant.2.size)

pub returns-in_default-clause-cycle : goal.returns-in_default-clause-cycle
returns-in_default-clause-cycle c = (
  λ _. let t = c.args.relation.now in
      let found = greedy_cycle (relates_once t) (length t) c.loop-placed.order.items c.loop-placed.waiting
      c.loop-placed.invariant.2 c.loop-placed.invariant.1 (omega arith) c.in_default.ensures in
      (found.0, cycle_into (IsBefore (relates_once t)) (Related t) (once_related t) found.0 found.1),
  λ _. refl,
)

pub returns-clause-least : goal.returns-clause-least
returns-clause-least c =
    let t = c.args.relation.now in
    least_alike (IsBefore (relates_once t)) (Related t) (length t) c.loop-placed.order.items (once_related t)
    (related_once t) (greedy_all (relates_once t) (length t) c.loop-placed.order.items
    (λ e f h. c.sound.ensures.within e f (once_related t e f h)) c.loop-placed.invariant.1 (omega arith))

pub returns-clause-cycle : goal.returns-clause-cycle
returns-clause-cycle c = (
  λ wrong. absurd (true≢false wrong),
  λ cycle. absurd (c.ordered_is_acyclic.ensures.related c.args.relation.now (length c.args.relation.now)
      c.loop-placed.order.items (returns-clause-least c).respects cycle.0 cycle.1),
)

pub loop-placed-init : goal.loop-placed-init
loop-placed-init c =
    let t = c.args.relation.now in
    let nil : c.in_ok-order.order.items ≡ [] = c.in_ok-order.ensures.items in (
      ap (λ (p : List ℕ). length p) nil,
      subst (λ (p : List ℕ). IsGreedy (relates_once t) (length t) p) (sym nil)
          (greedy_none (relates_once t) (length t)),
      subst (λ (p : List ℕ). IsOpen (relates_once t) (length t) p c.in_ok-waiting.waiting)
          (sym nil) c.in_ok-waiting.ensures,
    )

pub loop-placed-preserved : goal.loop-placed-preserved
loop-placed-preserved c =
    let p = c.loop-placed.order.items in
    let old = c.loop-placed.waiting in
    let new = c.place.new.self in
    let v = c.in-Some.event in
    let t = c.args.relation.now in
    let w = relates_once t in
    let now : c.push.new.self.items ≡ p ++ v ∷ [] = c.in_ok-push.ensures.items in
    let less : v < length t = omega (arith, c.loop-placed.invariant.2.size, c.in-Some.ensures.0) in
    let released : IsReleased w v old new =
    record { size = c.place.ensures.size; own = c.place.ensures.own; others = c.place.ensures.others } in (
      omega (arith, ap (λ (m : List ℕ). length m) now, length-append p (v ∷ []), c.loop-placed.invariant.0),
      subst (λ (m : List ℕ). IsGreedy w (length t) m) (sym now)
          (greedy_more w (length t) p old c.loop-placed.invariant.2 v
          (λ e f h. c.sound.ensures.within e f (once_related t e f h)) c.loop-placed.invariant.1
          (omega arith) less c.in-Some.ensures.1 c.in-Some.ensures.2),
      subst (λ (m : List ℕ). IsOpen w (length t) m new) (sym now)
          (open_more w (length t) p v old new less
          (free_is_fresh w (length t) p old c.loop-placed.invariant.2 v less c.in-Some.ensures.1)
          c.loop-placed.invariant.2 released),
    )
