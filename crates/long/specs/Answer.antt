-- What is answered to a recording of any length.
use Rattle.std.specs.Prelude.{◌≡◌, ℕ, Option, Some, None, List}
use Rattle.recording.specs.Execution.{Execution}
use Rattle.recording.specs.Tso.{IsTsoOrder}
use Rattle.relations.specs.Cycle.{IsCycle}
use Rattle.relations.specs.Forced.{Forced, IsLeastOverlook, Overlooks}
use Rattle.relations.specs.Consistency.{HasNoOrder, HasNoOverlook}
use Rattle.verdicts.specs.Judgement.{IsOrderedVerdict}
use Rattle.verdicts.specs.declared.verdict.Verdict.{Verdict}
use Rattle.verdicts.specs.declared.verdict.Verdict.TheVariants as verdict
use Rattle.long.specs.declared.answer.LongAnswer.{LongAnswer}
use Rattle.long.specs.declared.answer.LongAnswer.TheVariants.{Order, Overlook, Cycle}
use Rattle.long.specs.declared.answer.Judged.{Judged}
use Rattle.long.specs.declared.first.FirstOrder.{FirstOrder}
use Rattle.long.specs.declared.first.FirstOrder.TheVariants as first
use Rattle.long.specs.Critical.{IsCritical}
use Rattle.long.specs.Sorted.{IsLeft}

-- the first memory order of TSO; or the least overlook, or, where no read overlooks a store, events that are left and a
-- cycle of forced pairs, and no memory order of TSO explains the execution
abbrev pub IsFirstOrder : Execution → FirstOrder → Type 0
IsFirstOrder x (first.Order m) = IsOrderedVerdict x m.items
IsFirstOrder x (first.Overlook l s) = IsLeastOverlook x l s × HasNoOrder x
IsFirstOrder x (first.Cyclic l) = IsLeft x l × ((c : List ℕ) × IsCycle (Forced x) c) × HasNoOverlook x × HasNoOrder x

-- the first memory order of TSO; or the least overlook, or, where no read overlooks a store, a cycle of forced pairs
-- without a chord, and no memory order of TSO explains the execution
abbrev pub IsLongAnswer : Execution → LongAnswer → Type 0
IsLongAnswer x (Order m) = IsOrderedVerdict x m.items
IsLongAnswer x (Overlook l s) = IsLeastOverlook x l s × HasNoOrder x
IsLongAnswer x (Cycle c) = IsCritical (Forced x) c.items × HasNoOverlook x × HasNoOrder x

-- with a cycle, and with nothing else, there is the execution
abbrev pub HasPlaces : Execution → LongAnswer → Option Execution → Type 0
HasPlaces x (Order m) places = places ≡ None
HasPlaces x (Overlook l s) places = places ≡ None
HasPlaces x (Cycle c) places = places ≡ Some x

-- an answer to an execution, and with a cycle, and with nothing else, the execution
pub record IsJudged (x : Execution) (j : Judged) : Type 0 where
  pub answer : IsLongAnswer x j.answer
  pub places : HasPlaces x j.answer j.places

-- the order is a memory order of TSO, the read overlooks the store, the cycle is one of forced pairs
abbrev pub IsWitness : Execution → LongAnswer → Type 0
IsWitness x (Order m) = IsTsoOrder x m.items
IsWitness x (Overlook l s) = Overlooks x l s
IsWitness x (Cycle c) = IsCycle (Forced x) c.items

-- a verdict without the labels of its cycle
abbrev pub without_labels : Verdict → LongAnswer
without_labels (verdict.Ordered m) = Order m
without_labels (verdict.Overlook l s) = Overlook l s
without_labels (verdict.Cycle c) = Cycle c.cycle
