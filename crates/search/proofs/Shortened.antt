-- Rows of labels that are cut at the length of the shortest cycles.
use Rattle.std.proofs.Common.{◌≡◌, ◌<◌, ◌≤◌, ◌∙◌, inl, inr, ℕ, Option, None, Some, List, [], ◌∷◌}
use Rattle.std.proofs.Common.{◌++◌, length, length-append, get_or, arith, sym, ap, subst}
use Rattle.std.specs.Option.{unwrap_or}
use Rattle.std.proofs.lemmas.Bool.{cases_eq}
use Rattle.std.proofs.lemmas.List.{get_or-map, length-map, get_or_push, get_or_append_left}
use Rattle.relations.specs.Relation.{Table, Related}
use Rattle.relations.specs.Cycle.{IsCycle, IsCappedDistance, IsExactRow}
use Rattle.relations.specs.CycleLaws.{short_cycle}
use Rattle.search.specs.Cycles.{IsLeastLength, IsShortestLength}
use Rattle.search.specs.SourceRow.{SourceRow, source_row, IsCycleLength, IsSourceRow, IsNamed, AreLeastRows}
use Rattle.search.specs.Slots.{IsCutAt}
use Rattle.search.proofs.Walks.{cut_distance}

-- no cycle's length is below that of the shortest, and there is a cycle of no more than all events
larger : (t : Table) (old : Option ℕ) (k : ℕ) → ((e f : ℕ) → Related t e f → (e < length t) × (f < length t))
    → IsCycleLength (Related t) old → IsShortestLength (Related t) k → k ≤ unwrap_or old (length t)
larger t None k within cycle short =
    let s : (s : List ℕ) × IsCycle (Related t) s × (length s ≤ length t) =
    short_cycle (Related t) (length t) within short.0 short.1.cycle in
    omega (arith, s.2, short.1.shortest s.0 s.1, short.2)
larger t (Some m) k within cycle short = omega (arith, cycle.2, short.1.shortest cycle.0 cycle.1, short.2)

-- a row under any cap is exact once it is cut at the least length
pub cut_labelled : (t : Table) (source : ℕ) (old cap : Option ℕ) (numbers cut : List ℕ)
    → ((e f : ℕ) → Related t e f → (e < length t) × (f < length t))
    → IsSourceRow (source_row t source old numbers) → IsLeastLength (Related t) cap → IsCutAt cap numbers cut
    → IsSourceRow (source_row t source cap cut)
cut_labelled t source None None numbers cut within h least is =
    subst (λ (row : List ℕ). IsSourceRow (source_row t source None row)) (sym is) h
cut_labelled t source (Some m) None numbers cut within h least is = absurd (least h.cycle.0 h.cycle.1)
cut_labelled t source old (Some k) numbers cut within h least is = record {
  within = h.within;
  cycle = (least.0, least.1.cycle, least.2);
  exact = record {
    one_each = is.0 ∙ h.exact.one_each;
    labels = λ e at. subst (λ (label : ℕ). IsCappedDistance (Related t) k source e label) (sym (is.1 e))
        (cut_distance (Related t) (unwrap_or old (length t)) k source e (get_or numbers e 0)
        (larger t old k within h.cycle least) (h.exact.labels e at));
  };
}

-- rows of all events that are named and labelled are the least rows
pub least_rows : (t : Table) (cap : Option ℕ) (rows : List SourceRow) → length rows ≡ length t
    → IsLeastLength (Related t) cap
    → ((v : ℕ) (d : SourceRow) → v < length t
    → IsNamed t cap v (get_or rows v d) × IsSourceRow (get_or rows v d)) → AreLeastRows t cap rows
least_rows t cap rows size least each = record {
  least = least;
  named = λ v d at. (each v d at).0;
  exact = record {
    one_each = length-map rows (λ (l : SourceRow). l.numbers) ∙ size;
    exact = λ v at.
        let d : SourceRow = source_row t v cap [] in
        let row : SourceRow = get_or rows v d in
        let n : IsNamed t cap v row = (each v d at).0 in
        let l : IsSourceRow row = (each v d at).1 in
        subst (λ (ns : List ℕ). IsExactRow (Related t) (length t) (unwrap_or cap (length t)) v ns)
        (sym (get_or-map (λ (l : SourceRow). l.numbers) rows v d [] (omega (arith, at, size))))
        (subst (λ (x : ℕ). IsExactRow (Related t) (length t) (unwrap_or cap (length t)) x row.numbers) n.from
        (subst (λ (o : Option ℕ). IsExactRow (Related t) (length t) (unwrap_or o (length t))
        row.source row.numbers) n.cut
        (subst (λ (x : Table). IsExactRow (Related x) (length x) (unwrap_or row.cap (length x))
        row.source row.numbers) n.shares l.exact)));
  };
}

-- one more of what each has
pub each_push : {X : Type 0} (P : ℕ → X → Type 0) (xs more : List X) (x : X) → more ≡ xs ++ x ∷ []
    → ((v : ℕ) (d : X) → v < length xs → P v (get_or xs v d)) → P (length xs) x → (v : ℕ) (d : X)
    → v < length more → P v (get_or more v d)
each_push P xs more x is before new v d below =
    subst (λ ys. P v (get_or ys v d)) (sym is) (elim (cases_eq v (length xs)) [
      | inl same ↦ subst (λ y. P v y) (sym (get_or_push xs x d v (sym same)))
          (subst (λ (k : ℕ). P k x) (sym same) new)
      | inr other ↦ subst (λ y. P v y) (sym (get_or_append_left xs (x ∷ []) d v (inside other)))
          (before v d (inside other))
    ])
  where
    inside : (v ≡ length xs → ⊥) → v < length xs
    inside other = omega (arith, other, below, ap (λ l. length l) is, length-append xs (x ∷ []))
