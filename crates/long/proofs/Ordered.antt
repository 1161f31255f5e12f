-- Orders in which pairs are in order.
use Rattle.std.proofs.Common.{◌<◌, ◌↔◌, ℕ, List, get_or, arith}
use Rattle.recording.specs.Execution.{Execution, event_count}
use Rattle.recording.specs.Order.{Enumerates}
use Rattle.recording.specs.OrderLaws.{place_in}
use Rattle.recording.specs.Tso.{IsTsoOrder, IsWellFormed}
use Rattle.relations.specs.Consistency.{HasNoOverlook}
use Rattle.relations.specs.Forced.{Forced}
use Rattle.relations.specs.ForcedLaws.{forced_within}
use Rattle.relations.specs.Laws.{EveryOrderRespects, EveryRespectingIsOrder}
use Rattle.long.specs.Chains.{times_listed}
use Rattle.long.specs.Positions.{AreInOrder, ArePositions}
use Rattle.long.specs.Steps.{IsStep}
use Rattle.long.proofs.Follow.{all_follow}

-- where no read overlooks a store, an order is one of TSO exactly where forced pairs from which all follow are in order
pub order_is_checked : (x : Execution) (m v : List ℕ) (p : List (ℕ × ℕ)) → IsWellFormed x → HasNoOverlook x
    → Enumerates (λ e. e < event_count x) m → ArePositions m (event_count x) v
    → ((d e : ℕ) → 0 < times_listed p d e → Forced x d e) → ((d e : ℕ) → IsStep x d e → 0 < times_listed p d e)
    → EveryOrderRespects x → EveryRespectingIsOrder x → AreInOrder p v ↔ IsTsoOrder x m
order_is_checked x m v p wf none total at forced enough respects exact = (
  λ ordered. exact m wf none (all_follow x wf none m (record {
    total = total;
    related = λ d e step.
        let kept = enough d e step in
        let f = forced d e kept in
        let within = forced_within x wf f.0 d e f.1 in
        let low : get_or v d 0 < get_or v e 0 = ordered d e kept in (
          omega (arith, at.each d within.0, at.each e within.1, low),
          place_in m e (omega (arith, total.once e within.1)),
        );
  })),
  λ order d e kept.
      let f = forced d e kept in
      let within = forced_within x wf f.0 d e f.1 in
      let before = (respects m wf order).0.related d e f in
      omega (arith, at.each d within.0, at.each e within.1, before.0),
)
