-- The verdict on an execution.
use Rattle.std.specs.Prelude.{ℕ, List, length}
use Rattle.recording.specs.Execution.{Execution, event_count}
use Rattle.recording.specs.Tso.{IsTsoOrder}
use Rattle.relations.specs.Forced.{Forced, IsLeastOverlook}
use Rattle.relations.specs.Cycle.{ComesFirst, IsLeastCycle, AreExactRows}
use Rattle.relations.specs.Respects.{IsLeastOrder}
use Rattle.relations.specs.Consistency.{HasNoOverlook, HasNoCycle, HasNoOrder}
use Rattle.labels.specs.Certified.{lists_of}
use Rattle.verdicts.specs.declared.verdict.Verdict.{Verdict}
use Rattle.verdicts.specs.declared.verdict.Verdict.TheVariants.{Ordered, Overlook, Cycle}

-- the first in dictionary order of the memory orders, and of the orders that have the forced pairs in order
pub record IsOrderedVerdict (x : Execution) (m : List ℕ) : Type 0 where
  pub order : IsTsoOrder x m
  pub first : (other : List ℕ) → IsTsoOrder x other → ComesFirst m other
  pub least : IsLeastOrder (Forced x) (event_count x) m
  pub no_overlook : HasNoOverlook x
  pub no_cycle : HasNoCycle x

-- the least overlook of an execution, which has no memory order
pub record IsOverlookVerdict (x : Execution) (l s : ℕ) : Type 0 where
  pub least : IsLeastOverlook x l s
  pub no_order : HasNoOrder x

-- the first in dictionary order of the shortest cycles, with the distances from each event, of an
-- execution without overlooks, which has no memory order
pub record IsCycleVerdict (x : Execution) (c : List ℕ) (rows : List (List ℕ)) : Type 0 where
  pub least : IsLeastCycle (Forced x) c
  pub exact : AreExactRows (Forced x) (event_count x) (length c) rows
  pub no_overlook : HasNoOverlook x
  pub no_order : HasNoOrder x

-- the verdict on an execution
abbrev pub IsVerdict : Execution → Verdict → Type 0
IsVerdict x (Ordered m) = IsOrderedVerdict x m.items
IsVerdict x (Overlook l s) = IsOverlookVerdict x l s
IsVerdict x (Cycle c) = IsCycleVerdict x c.cycle.items (lists_of c.rows.items)
