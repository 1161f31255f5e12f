-- What is left of a recording of any length: the events that its answer needs, with their sources.
use Rattle.std.specs.Prelude.{◌≡◌, ℕ, List, [], ◌∷◌, map, ⊤}
use Rattle.recording.specs.Execution.{Execution}
use Rattle.recording.specs.Order.{place}
use Rattle.relations.specs.Consistency.{HasNoOrder, HasNoOverlook}
use Rattle.relations.specs.Forced.{Forced, IsLeastOverlook}
use Rattle.long.specs.declared.answer.LongAnswer.{LongAnswer}
use Rattle.long.specs.declared.answer.LongAnswer.TheVariants.{Order, Overlook, Cycle}
use Rattle.long.specs.Critical.{IsCritical}
use Rattle.reduction.specs.Laws.{IsFaithful}
use Rattle.reduction.specs.Needed.{AreNeeded}
use Rattle.reduction.specs.Pruned.{pruned}
use Rattle.reduction.specs.Restriction.{restriction}

-- the events of an overlook or a cycle
abbrev pub answer_events : LongAnswer → List ℕ
answer_events (Order m) = []
answer_events (Overlook l s) = l ∷ s ∷ []
answer_events (Cycle c) = c.items

-- the answer holds of y, each number by its place in ks, and no memory order of TSO explains y
abbrev pub HasAnswer : Execution → List ℕ → LongAnswer → Type 0
HasAnswer y ks (Order m) = ⊥
HasAnswer y ks (Overlook l s) = IsLeastOverlook y (place ks l) (place ks s) × HasNoOrder y
HasAnswer y ks (Cycle c) = IsCritical (Forced y) (map (place ks) c.items) × HasNoOverlook y × HasNoOrder y

-- the answer is an order
abbrev pub IsOrder : LongAnswer → Type 0
IsOrder (Order m) = ⊤
IsOrder (Overlook l s) = ⊥
IsOrder (Cycle c) = ⊥

-- y is x with the events alone that the answer on x needs: those of it and the source of each, which is a store where
-- it is none of those; it has that answer
pub record IsLongReduction (x : Execution) (a : LongAnswer) (ks : List ℕ) (y : Execution) : Type 0 where
  pub needed : AreNeeded (pruned x (answer_events a)) (answer_events a) ks
  pub restricted : y ≡ restriction (pruned x (answer_events a)) ks
  pub faithful : IsFaithful (pruned x (answer_events a)) ks y
  pub answer : HasAnswer y ks a
