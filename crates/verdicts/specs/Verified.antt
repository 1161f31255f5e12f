-- What the check of a verdict asks, and what a checked one means.
use Rattle.recording.specs.Execution.{Execution, event_count}
use Rattle.recording.specs.Tso.{IsTsoOrder}
use Rattle.relations.specs.Forced.{Forced, Overlooks}
use Rattle.relations.specs.Cycle.{IsShortest, IsCertificate}
use Rattle.relations.specs.Consistency.{HasNoOrder}
use Rattle.labels.specs.Certified.{lists_of}
use Rattle.verdicts.specs.declared.verdict.Verdict.{Verdict}
use Rattle.verdicts.specs.declared.verdict.Verdict.TheVariants.{Ordered, Overlook, Cycle}

-- a memory order, an overlook, or a cycle with labels that show that none is shorter
abbrev pub Verifies : Execution → Verdict → Type 0
Verifies x (Ordered m) = IsTsoOrder x m.items
Verifies x (Overlook l s) = Overlooks x l s
Verifies x (Cycle c) = IsCertificate (Forced x) (event_count x) c.cycle.items (lists_of c.rows.items)

-- the order is a memory order; for the others there is none, and the cycle is a shortest one
abbrev pub Means : Execution → Verdict → Type 0
Means x (Ordered m) = IsTsoOrder x m.items
Means x (Overlook l s) = HasNoOrder x
Means x (Cycle c) = IsShortest (Forced x) c.cycle.items × HasNoOrder x
