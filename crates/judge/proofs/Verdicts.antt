-- What a table of the forced pairs gives is what the forced pairs have.
use Rattle.std.proofs.Common.{◌≡◌, ℕ, List, length, sym, subst}
use Rattle.recording.specs.Execution.{Execution, event_count}
use Rattle.relations.specs.Forced.{Forced}
use Rattle.relations.specs.Relation.{Table, Related}
use Rattle.relations.specs.Cycle.{IsCycle, IsLeastCycle, AreExactRows, IsCertificate}
use Rattle.relations.specs.CycleLaws.{cycle_into}
use Rattle.relations.specs.Consistency.{HasNoOrder}
use Rattle.relations.specs.Laws.{EveryOrderRespects, OrderedIsAcyclic}
use Rattle.relations.specs.Laws.{LeastCyclesAgree, ExactRowsAgree, CertificatesAgree}
use Rattle.recording.specs.Tso.{IsWellFormed}
use Rattle.labels.specs.Certified.{lists_of}
use Rattle.labels.specs.declared.certificate.Certificate.{Certificate}
use Rattle.verdicts.specs.Judgement.{IsCycleVerdict}
use Rattle.judge.specs.LeastCertificate.{IsCyclicTable, IsLeastCertificate}

-- where the forced pairs have a cycle, there is no order
pub no_order : (x : Execution) → IsWellFormed x → EveryOrderRespects x → OrderedIsAcyclic (Forced x)
    → (c : List ℕ) → IsCycle (Forced x) c → HasNoOrder x
no_order x formed respects acyclic c cycle m tso = acyclic (event_count x) m (respects m formed tso).0 c cycle

module _ (x : Execution) (t : Table) (of : IsCyclicTable x t) where
  -- the cycle of forced pairs is one of the same table
  pub cyclic : (s : Table) → s ≡ t → (c : List ℕ) × IsCycle (Related s) c
  cyclic s same = subst (λ (u : Table). (d : List ℕ) × IsCycle (Related u) d) (sym same)
      (of.cycle.0, cycle_into (Forced x) (Related t) (λ e f forced. (of.forced e f).1 forced) of.cycle.0 of.cycle.1)

  -- the certificate of the same table
  same_certificate : (s : Table) → s ≡ t → (c : Certificate) → IsLeastCertificate s c → IsLeastCertificate t c
  same_certificate s same c least = subst (λ (u : Table). IsLeastCertificate u c) same least

  -- the first of the shortest cycles
  pub least_cycle : LeastCyclesAgree (Related t) (Forced x) → (s : Table) → s ≡ t → (c : Certificate)
      → IsLeastCertificate s c → IsLeastCycle (Forced x) c.cycle.items
  least_cycle agree s same c least =
      (agree of.forced c.cycle.items).0 (same_certificate s same c least).least

  -- the distances
  pub exact_rows : ExactRowsAgree (Related t) (Forced x) → (s : Table) → s ≡ t → (c : Certificate)
      → IsLeastCertificate s c
      → AreExactRows (Forced x) (event_count x) (length c.cycle.items) (lists_of c.rows.items)
  exact_rows agree s same c least =
      (agree of.forced (event_count x) (length c.cycle.items) (lists_of c.rows.items)).0
      (subst (λ (n : ℕ). AreExactRows (Related t) n (length c.cycle.items) (lists_of c.rows.items)) of.size
      (same_certificate s same c least).exact)

  -- the certificate
  pub certificate : CertificatesAgree (Related t) (Forced x) → (s : Table) → s ≡ t → (c : Certificate)
      → IsLeastCertificate s c
      → IsCertificate (Forced x) (event_count x) c.cycle.items (lists_of c.rows.items)
  certificate agree s same c least =
      (agree of.forced (event_count x) c.cycle.items (lists_of c.rows.items)).0
      (subst (λ (n : ℕ). IsCertificate (Related t) n c.cycle.items (lists_of c.rows.items)) of.size
      (same_certificate s same c least).certified)

  -- the verdict of a certificate
  pub cycle_verdict : LeastCyclesAgree (Related t) (Forced x) → ExactRowsAgree (Related t) (Forced x)
      → EveryOrderRespects x → OrderedIsAcyclic (Forced x) → IsWellFormed x
      → (s : Table) → s ≡ t → (c : Certificate) → IsLeastCertificate s c
      → IsCycleVerdict x c.cycle.items (lists_of c.rows.items)
  cycle_verdict cycles rows respects acyclic formed s same c found =
      let least = least_cycle cycles s same c found in
      record {
        least = least;
        exact = exact_rows rows s same c found;
        no_overlook = of.no_overlook;
        no_order = no_order x formed respects acyclic c.cycle.items least.shortest.cycle;
      }
