-- Lemmas on certificates: the cycle of one is a shortest one.
use Rattle.std.proofs.Common.{◌≡◌, ◌<◌, ◌≤◌, ◌+◌, ℕ, List, [], ◌∷◌, length, get_or, arith, subst, Vec, Global}
use Rattle.relations.specs.Relation.{Table, Related}
use Rattle.relations.specs.Cycle.{Leads, IsCycle, IsShortest, IsLabelling, IsCertificate}
use Rattle.labels.specs.declared.certificate.Certificate.{Certificate}
use Rattle.labels.specs.Certified.{lists_of, AreLabellings}

-- along a list of related neighbours the label grows by one at most
grows_along : (R : ℕ → ℕ → Type 0) (k n v : ℕ) (labels : List ℕ) → IsLabelling R k n v labels
    → (e : ℕ) (es : List ℕ) → Leads R e es v → k ≤ get_or labels e 0 + length es + 1
grows_along R k n v labels l e [] h = omega (arith, l.closes e h)
grows_along R k n v labels l e (f ∷ fs) h = omega (
  arith,
  l.grows e f h.0,
  grows_along R k n v labels l f fs h.1,
)

-- what leads anywhere is below n
leads_from : (R : ℕ → ℕ → Type 0) (n : ℕ) → ((e f : ℕ) → R e f → (e < n) × (f < n))
    → (e : ℕ) (es : List ℕ) (v : ℕ) → Leads R e es v → e < n
leads_from R n within e [] v h = (within e v h).0
leads_from R n within e (f ∷ fs) v h = (within e f h.0).0

-- no cycle of related numbers below n is shorter than that of a certificate
pub certificates_are_shortest : (R : ℕ → ℕ → Type 0) (n : ℕ) (c : List ℕ) (rows : List (List ℕ))
    → ((e f : ℕ) → R e f → (e < n) × (f < n)) → IsCertificate R n c rows → IsShortest R c
certificates_are_shortest R n c rows within cert = record { cycle = cert.cyclic; shortest = shortest }
  where
    shortest : (d : List ℕ) → IsCycle R d → length c ≤ length d
    shortest [] h = elim h [ ]
    shortest (v ∷ es) h =
        let row : IsLabelling R (length c) n v (get_or rows v []) =
        cert.labellings v (leads_from R n within v es v h) in
        omega (arith, row.start, grows_along R (length c) n v (get_or rows v []) row v es h)

-- what was looked at is the certificate's: a cycle whose length the rows agree with is a shortest one
pub labelled_is_shortest : (t : Table) (c : Certificate) {cycle : List ℕ} {k : ℕ} {rows : List (Vec ℕ Global)}
    → ((e f : ℕ) → Related t e f → (e < length t) × (f < length t)) → cycle ≡ c.cycle.items
    → k ≡ length c.cycle.items → rows ≡ c.rows.items → IsCycle (Related t) cycle → AreLabellings t k rows
    → IsShortest (Related t) c.cycle.items
labelled_is_shortest t c {cycle} {k} {rows} within same size same_rows cyclic agree =
    certificates_are_shortest (Related t) (length t) c.cycle.items (lists_of c.rows.items) within
    (record {
      cyclic = subst (λ (d : List ℕ). IsCycle (Related t) d) same cyclic;
      one_each = shown.one_each;
      labellings = shown.labellings;
    })
  where
    shown : AreLabellings t (length c.cycle.items) c.rows.items
    shown = subst (λ (d : List (Vec ℕ Global)). AreLabellings t (length c.cycle.items) d) same_rows
        (subst (λ (n : ℕ). AreLabellings t n rows) size agree)
