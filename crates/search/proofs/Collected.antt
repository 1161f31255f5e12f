-- Rows that are collected by source, while the seat learns more.
use Rattle.std.proofs.Common.{◌≡◌, ◌<◌, ◌≤◌, ◌+◌, ◌∙◌, inl, inr, ℕ, Option, None, Some, List}
use Rattle.std.proofs.Common.{[], ◌∷◌, ◌++◌}
use Rattle.std.proofs.Common.{length, get_or, IfSome, Contains, arith, refl, sym, ap}
use Rattle.std.proofs.Common.{set, subst, length-append, length-set, get_or-set_same, get_or-set_other}
use Rattle.std.proofs.lemmas.Bool.{cases_eq}
use Rattle.std.proofs.lemmas.List.{get_or_push, get_or_append_left}
use Rattle.std.proofs.lemmas.List.Elements.{Contains-append_left, Contains-append_right}
use Rattle.relations.specs.Relation.{Table, Related}
use Rattle.relations.specs.Cycle.{IsCycle, IsShortest}
use Rattle.best.specs.declared.rule.Known.{Known}
use Rattle.best.specs.Rule.{IsLength}
use Rattle.best.specs.Seats.{IsBoundRead, Unites}
use Rattle.search.specs.Cycles.{IsLeastLength}
use Rattle.search.specs.SourceRow.{SourceRow}
use Rattle.search.specs.Bound.{Keeps, KnowsShortest}
use Rattle.search.specs.Slots.{IsRowFrom, AreSlots, AreSlotsFilled}
use Rattle.search.proofs.WorkerRows.{covers_kept}
use Rattle.search.proofs.Known.{knows_it}

-- two seats in one know what the first knew
pub unites_left : (v w u : Known) → Unites v w u → Keeps v.lengths u.lengths
unites_left v w u is k h = subst (λ (x : Known). Contains x.lengths k) (sym is)
    (Contains-append_left v.lengths w.lengths k h)

-- and what the second knew
pub unites_right : (v w u : Known) → Unites v w u → Keeps w.lengths u.lengths
unites_right v w u is k h = subst (λ (x : Known). Contains x.lengths k) (sym is)
    (Contains-append_right v.lengths w.lengths k h)

-- the row of a source stays one
pub row_kept : (t : Table) (before after : List ℕ) (v : ℕ) (row : SourceRow) → Keeps before after
    → IsRowFrom t before v row → IsRowFrom t after v row
row_kept t before after v row keeps h =
    record {
      shares = h.shares;
      from = h.from;
      covers = covers_kept (Related t) before after v keeps h.covers;
    }

-- and so in its place
pub slot_kept : (t : Table) (before after : List ℕ) (v : ℕ) (slot : Option SourceRow) → Keeps before after
    → IfSome slot (IsRowFrom t before v) → IfSome slot (IsRowFrom t after v)
slot_kept t before after v None keeps h = tt
slot_kept t before after v (Some row) keeps h = row_kept t before after v row keeps h

-- and in all places
pub slots_kept : (t : Table) (before after : List ℕ) (slots : List (Option SourceRow)) → Keeps before after
    → AreSlots t before slots → AreSlots t after slots
slots_kept t before after slots keeps h = λ v d at. slot_kept t before after v (get_or slots v d) keeps (h v d at)

-- and so where one changes
pub slot_set : (t : Table) (lengths : List ℕ) (slots : List (Option SourceRow)) (i : ℕ) (slot : Option SourceRow)
    → AreSlots t lengths slots → IfSome slot (IsRowFrom t lengths i) → AreSlots t lengths (set slots i slot)
slot_set t lengths slots i slot h new v d at = elim (cases_eq v i) [
  | inl is ↦ subst (λ (o : Option SourceRow). IfSome o (IsRowFrom t lengths v))
      (sym (ap (λ (x : ℕ). get_or (set slots i slot) x d) is
      ∙ get_or-set_same slots i slot d (omega (arith, is, inside))))
      (subst (λ (x : ℕ). IfSome slot (IsRowFrom t lengths x)) (sym is) new)
  | inr other ↦ subst (λ (o : Option SourceRow). IfSome o (IsRowFrom t lengths v))
      (sym (get_or-set_other slots i v slot d other)) (h v d inside)
]
  where
    inside : v < length slots
    inside = omega (arith, at, length-set slots i slot)

-- one empty place more
pub none_more : (t : Table) (lengths : List ℕ) (i : ℕ) (slots : List (Option SourceRow)) → length slots ≡ i
    → ((v : ℕ) (d : Option SourceRow) → v < i → IfSome (get_or slots v d) (IsRowFrom t lengths v))
    → (v : ℕ) (d : Option SourceRow) → v < i + 1 → IfSome (get_or (slots ++ None ∷ []) v d)
    (IsRowFrom t lengths v)
none_more t lengths i slots long before v d below = elim (cases_eq v i) [
  | inl is ↦ subst (λ (o : Option SourceRow). IfSome o (IsRowFrom t lengths v))
      (sym (get_or_push slots None d v (long ∙ sym is))) tt
  | inr other ↦ subst (λ (o : Option SourceRow). IfSome o (IsRowFrom t lengths v))
      (sym (get_or_append_left slots (None ∷ []) d v (omega (arith, long, below, other))))
      (before v d (omega (arith, below, other)))
]

-- one row more
pub filled_more : (t : Table) (before after : List ℕ) (i : ℕ) (rows more : List SourceRow) (row : SourceRow)
    → Keeps before after → AreSlotsFilled t before i rows → IsRowFrom t after i row → more ≡ rows ++ row ∷ []
    → AreSlotsFilled t after (i + 1) more
filled_more t before after i rows more row keeps h new is = record {
  size = omega (arith, ap (λ (rs : List SourceRow). length rs) is, length-append rows (row ∷ []), h.size);
  each = λ v d below. subst (λ (rs : List SourceRow). IsRowFrom t after v (get_or rs v d)) (sym is)
      (elim (cases_eq v i) [
        | inl same ↦ subst (λ (r : SourceRow). IsRowFrom t after v r)
            (sym (get_or_push rows row d v (h.size ∙ sym same)))
            (subst (λ (x : ℕ). IsRowFrom t after x row) (sym same) new)
        | inr other ↦ subst (λ (r : SourceRow). IsRowFrom t after v r)
            (sym (get_or_append_left rows (row ∷ []) d v (omega (arith, h.size, below, other))))
            (row_kept t before after v (get_or rows v d) keeps (h.each v d (omega (arith, below, other))))
      ]);
}

module _ (t : Table) (v w : Known) (rows : List SourceRow) (of : v.relation ≡ t)
    (within : (e f : ℕ) → Related t e f → (e < length t) × (f < length t))
    (h : AreSlotsFilled t v.lengths (length t) rows) where
  -- each cycle has a known length at most its own
  cycle_covered : (c : List ℕ) → IsCycle (Related t) c → (k : ℕ) × Contains v.lengths k × (k ≤ length c)
  cycle_covered [] cycle = elim cycle [ ]
  cycle_covered (e ∷ es) cycle = (h.each e nobody (first_within e es cycle)).covers (e ∷ es) cycle
      (0, omega arith, refl)
    where
      nobody : SourceRow
      nobody = record { relation = t; source = 0; cap = None; numbers = [] }

      first_within : (e : ℕ) (es : List ℕ) → IsCycle (Related t) (e ∷ es) → e < length t
      first_within e [] r = (within e e r).0
      first_within e (f ∷ fs) r = (within e f r.0).0

  -- so what is read then is the length of the shortest cycles, or there is none
  pub read_least : (o : Option ℕ) → IsBoundRead v o w → IsLeastLength (Related t) o
  read_least None says = λ c cycle. let k : (k : ℕ) × Contains v.lengths k × (k ≤ length c) =
      cycle_covered c cycle in says.1 k.0 k.1
  read_least (Some n) says =
      let is : IsLength t n = subst (λ (x : Table). IsLength x n) of says.1 in (
        is.0,
        record {
          cycle = is.1;
          shortest = λ c cycle. let k : (k : ℕ) × Contains v.lengths k × (k ≤ length c) =
              cycle_covered c cycle in omega (arith, is.2, says.2 k.0 k.1, k.2);
        },
        is.2,
      )

-- and it is known
pub least_known : (t : Table) (v w : Known) (o : Option ℕ) → IsBoundRead v o w → IsLeastLength (Related t) o
    → KnowsShortest (Related t) w.lengths
least_known t v w None says least k short = absurd (least short.0 short.1.cycle)
least_known t v w (Some n) says least k short =
    let a : (c : List ℕ) × IsShortest (Related t) c × (length c ≡ n) = least in
    let b : (c : List ℕ) × IsShortest (Related t) c × (length c ≡ k) = short in
    subst (λ (x : ℕ). Contains w.lengths x)
    (omega (arith, a.2, b.2, a.1.shortest b.0 b.1.cycle, b.1.shortest a.0 a.1.cycle))
    (knows_it v w n says.0)
