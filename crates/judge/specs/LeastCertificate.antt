-- The certificate that the judge finds, and where it looks for one.
use Rattle.std.specs.Prelude.{◌≡◌, ◌↔◌, ℕ, List, length}
use Rattle.recording.specs.Execution.{Execution, event_count}
use Rattle.relations.specs.Forced.{Forced}
use Rattle.relations.specs.Relation.{Table, Related}
use Rattle.relations.specs.Cycle.{IsCycle, IsLeastCycle, AreExactRows}
use Rattle.relations.specs.Consistency.{HasNoOverlook}
use Rattle.labels.specs.Certified.{lists_of, Certifies}
use Rattle.labels.specs.declared.certificate.Certificate.{Certificate}

-- the first of the shortest cycles of a table, with its distances, which certify it
pub record IsLeastCertificate (t : Table) (c : Certificate) : Type 0 where
  pub least : IsLeastCycle (Related t) c.cycle.items
  pub exact : AreExactRows (Related t) (length t) (length c.cycle.items) (lists_of c.rows.items)
  pub certified : Certifies t c

-- a table of all forced pairs, which have a cycle and no overlook
pub record IsCyclicTable (x : Execution) (t : Table) : Type 0 where
  pub size : length t ≡ event_count x
  pub forced : (e f : ℕ) → Related t e f ↔ Forced x e f
  pub cycle : (c : List ℕ) × IsCycle (Forced x) c
  pub no_overlook : HasNoOverlook x
