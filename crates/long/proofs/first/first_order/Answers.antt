use Rattle.std.proofs.Common.{ℕ, Option, subst}
use Rattle.std.specs.Prelude.{MatchOption}
use Rattle.recording.specs.Execution.{event_count}
use Rattle.relations.specs.Consistency.{HasNoOverlook}
use Rattle.relations.specs.Forced.{IsLeastOverlook}
use Rattle.long.specs.declared.sorting.Sorted.{Sorted}
use Rattle.long.specs.declared.sorting.Sorted.TheVariants.{Ordered}
use Rattle.long.specs.Sorted.{IsSorted}
use Rattle.long.proofs.Sorts.{left_cycle}
use Rattle.long.proofs.first.first_order.Goals as goal

pub returns-in-Ordered : goal.returns-in-Ordered
returns-in-Ordered c =
    let x = c.args.recording.now in
    let none : HasNoOverlook x = subst (λ (o : Option (ℕ × ℕ)). MatchOption o (HasNoOverlook x)
    (λ p. IsLeastOverlook x p.0 p.1)) c.in_default.is c.in_ok-load.ensures in
    let sorted : IsSorted x (Ordered c.in-Ordered.order) =
    subst (λ (s : Sorted). IsSorted x s) c.in-Ordered.is (c.in_ok-order.ensures none) in
    let m = c.in-Ordered.order.items in
    record {
      order = c.forced_is_exact.ensures.enough x m c.sound.ensures.well_formed none sorted.respects;
      first = λ other tso. sorted.least other
          (c.forced_is_exact.ensures.respects x other c.sound.ensures.well_formed tso).0;
      least = sorted;
      no_overlook = none;
      no_cycle = c.ordered_is_acyclic.ensures.forced x (event_count x) m sorted.respects;
    }

pub returns-in-Blocked : goal.returns-in-Blocked
returns-in-Blocked c =
    let x = c.args.recording.now in
    let none : HasNoOverlook x = subst (λ (o : Option (ℕ × ℕ)). MatchOption o (HasNoOverlook x)
    (λ p. IsLeastOverlook x p.0 p.1)) c.in_default.is c.in_ok-load.ensures in
    let left = subst (λ (s : Sorted). IsSorted x s) c.in-Blocked.is (c.in_ok-order.ensures none) in
    let cycle = left_cycle x c.in-Blocked.left left in (
      left,
      cycle,
      none,
      λ m tso. c.ordered_is_acyclic.ensures.forced x (event_count x) m
          (c.forced_is_exact.ensures.respects x m c.sound.ensures.well_formed tso).0 cycle.0 cycle.1,
    )
