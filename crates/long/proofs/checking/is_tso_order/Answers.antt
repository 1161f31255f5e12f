use Rattle.std.proofs.Common.{◌<◌, ℕ, List, length, arith, ap, sym, subst}
use Rattle.recording.specs.Order.{Enumerates}
use Rattle.recording.specs.Execution.{event_count}
use Rattle.relations.specs.Consistency.{HasNoOverlook}
use Rattle.relations.specs.Forced.{Forced}
use Rattle.relations.specs.ForcedLaws.{forced_within}
use Rattle.long.specs.Chains.{times_listed}
use Rattle.long.specs.Positions.{ArePositions}
use Rattle.long.specs.Steps.{IsStep}
use Rattle.long.proofs.Ordered.{order_is_checked}
use Rattle.long.proofs.checking.is_tso_order.Goals as goal

pub all_follow-requires : goal.all_follow-requires
all_follow-requires c =
    let x = c.args.recording.now in
    let found = rw c.in-Some.is at c.in_ok-positions.ensures in
    λ d f some. let put : 0 < times_listed c.in_ok-linked.linked.list.items d f =
    subst (λ (l : List (ℕ × ℕ)). 0 < times_listed l d f) c.deref.ensures.value some in
    let forced : Forced x d f = c.in_ok-linked.ensures.linked d f put in
    let within = forced_within x c.sound.ensures.well_formed forced.0 d f forced.1 in (
      omega (arith, within.0, c.len.ensures, found.1.size, ap (λ (l : List ℕ). length l) c.deref-2.ensures.value),
      omega (arith, within.1, c.len.ensures, found.1.size, ap (λ (l : List ℕ). length l) c.deref-2.ensures.value),
    )

pub returns : goal.returns
returns c =
    let x = c.args.recording.now in
    let m = c.args.order.now in
    let v = c.in-Some.positions.items in
    let found = rw c.in-Some.is at c.in_ok-positions.ensures in
    let at : Enumerates (λ e. e < event_count x) m × ArePositions m (event_count x) v =
    subst (λ (n : ℕ). Enumerates (λ e. e < n) m × ArePositions m n v) c.len.ensures found in
    let list : List (ℕ × ℕ) = c.deref.result.now in
    let forced : (d e : ℕ) → 0 < times_listed list d e → Forced x d e =
    subst (λ (l : List (ℕ × ℕ)). (d e : ℕ) → 0 < times_listed l d e → Forced x d e) (sym c.deref.ensures.value)
    c.in_ok-linked.ensures.linked in
    let enough : (d e : ℕ) → IsStep x d e → 0 < times_listed list d e =
    subst (λ (l : List (ℕ × ℕ)). (d e : ℕ) → IsStep x d e → 0 < times_listed l d e) (sym c.deref.ensures.value)
    c.in_ok-linked.ensures.enough in
    let none : HasNoOverlook x = rw c.in_default-2.is at c.in_ok-_found.ensures in
    let checked = order_is_checked x m c.deref-2.result.now list c.sound.ensures.well_formed
    none at.0
    (subst (λ (l : List ℕ). ArePositions m (event_count x) l) (sym c.deref-2.ensures.value) at.1)
    forced enough (c.forced_is_exact.ensures.respects x) (c.forced_is_exact.ensures.enough x) in
    (λ is. checked.0 (c.all_follow.ensures.0 is), λ order. c.all_follow.ensures.1 (checked.1 order))
