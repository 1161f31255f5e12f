-- Rows of labels, and jobs that share a relation.
use Rattle.std.proofs.Common.{◌≡◌, ◌<◌, inl, inr, ℕ, Bool, Option, None, Some, List, [], ◌∷◌, ◌++◌}
use Rattle.std.proofs.Common.{length, get_or, arith, refl, sym, ap, subst, ◌∙◌, append_assoc, Vec}
use Rattle.std.proofs.Common.{Global}
use Rattle.std.specs.Option.{unwrap_or}
use Rattle.std.specs.Prelude.{false, true}
use Rattle.std.proofs.lemmas.Bool.{cases_eq}
use Rattle.std.proofs.lemmas.List.{get_or_past, get_or-map, map-append, length-map}
use Rattle.bitrow.specs.Bits.{is_in}
use Rattle.relations.specs.Relation.{Row, Table, relates, sets_of, Related}
use Rattle.relations.specs.Cycle.{Leads, AreExactRows, IsAcyclic}
use Rattle.labels.specs.Certified.{lists_of}
use Rattle.search.specs.Cycles.{IsLeastLength, IsShortestLength}
use Rattle.search.specs.SourceRow.{SourceRow, AreLeastRows, numbers_of}
use Rattle.search.specs.SourceRow.{Job, AreJobsOf, AreShared}

-- a relation of no events has no cycle
empty_acyclic : (t : Table) → length t ≡ 0 → IsAcyclic (Related t)
empty_acyclic t none [] cycle = cycle
empty_acyclic t none (e ∷ es) cycle = leads_none es cycle
  where
    unrelated : (f : ℕ) → Related t e f → ⊥
    unrelated f r =
        let empty : relates t e f ≡ false = ap (λ (set : List Bool). is_in set f)
        (get_or_past (sets_of t) e [] (omega (arith, none, length-map t (λ (row : Row). row.after))))
        ∙ get_or_past {X = Bool} [] f false (omega arith) in
        let wrong : false ≡ true = sym empty ∙ r in cc

    leads_none : (es : List ℕ) → Leads (Related t) e es e → ⊥
    leads_none [] h = unrelated e h
    leads_none (f ∷ fs) h = unrelated f h.0

-- no rows are those of a relation of no events
pub least_none : (t : Table) (jobs : List Job) → length jobs ≡ 0 → AreShared t jobs → AreLeastRows t None []
least_none t jobs none h = record {
  least = empty_acyclic t no_events;
  named = λ v d at. absurd (omega (arith, at, no_events));
  exact = record { one_each = sym no_events; exact = λ v at. absurd (omega (arith, at, no_events)) };
}
  where
    no_events : length t ≡ 0
    no_events = elim (cases_eq (length t) 0) [
      | inl is ↦ is
      | inr more ↦ let some : (i : ℕ) × (i < length jobs) × ((d : Job) → (get_or jobs i d).source ≡ 0) =
          h.named 0 (omega (arith, more)) in absurd (omega (arith, some.1, none))
    ]

-- the jobs of a relation share it
pub jobs_share : (t : Table) (jobs : List Job) → AreJobsOf t jobs → AreShared t jobs
jobs_share t jobs h = record {
  shared = λ i d at. ap (λ (j : Job). j.relation) (h.each i d (omega (arith, at, h.one_each)));
  named = λ e at. (e, omega (arith, at, h.one_each), λ d. ap (λ (j : Job). j.source) (h.each e d at));
}

-- one row gives its numbers
pub lists_more : (lists : List (Vec ℕ Global)) (last : Vec ℕ Global) (one : List ℕ) (rest all : List (List ℕ))
    → last.items ≡ one → lists_of lists ++ one ∷ rest ≡ all → lists_of (lists ++ last ∷ []) ++ rest ≡ all
lists_more lists last one rest all is split =
    ap (λ (front : List (List ℕ)). front ++ rest)
    (map-append (λ (v : Vec ℕ Global). v.items) lists (last ∷ []))
    ∙ (append_assoc (lists_of lists) (last.items ∷ []) rest
    ∙ (ap (λ (x : List ℕ). lists_of lists ++ x ∷ rest) is ∙ split))

-- without rows there is no length
pub no_cap : (t : Table) (cap : Option ℕ) (rows : List SourceRow) → length rows ≡ 0 → AreLeastRows t cap rows
    → None ≡ cap
no_cap t None rows none h = refl
no_cap t (Some k) rows none h = absurd
    (empty_acyclic t (omega (arith, none, h.exact.one_each, length-map rows (λ (l : SourceRow). l.numbers)))
    h.least.0 h.least.1.cycle)

-- the first row is cut at the length
pub first_cap : (t : Table) (cap : Option ℕ) (rows : List SourceRow) (d : SourceRow) → 0 < length rows
    → AreLeastRows t cap rows → (get_or rows 0 d).cap ≡ cap
first_cap t cap rows d some h = (h.named 0 d
    (omega (arith, some, h.exact.one_each, length-map rows (λ (l : SourceRow). l.numbers)))).cut

-- rows without a length say that there is no cycle
pub none_least : (t : Table) (cap : Option ℕ) (rows : List SourceRow) → None ≡ cap → AreLeastRows t cap rows
    → IsAcyclic (Related t)
none_least t cap rows is h = subst (λ (o : Option ℕ). IsLeastLength (Related t) o) (sym is) h.least

-- rows with one say that it is that of the shortest cycles
pub some_least : (t : Table) (cap : Option ℕ) (k : ℕ) (rows : List SourceRow) → Some k ≡ cap
    → AreLeastRows t cap rows → IsShortestLength (Related t) k
some_least t cap k rows is h = subst (λ (o : Option ℕ). IsLeastLength (Related t) o) (sym is) h.least

-- and their numbers are exact under it
pub some_exact : (t : Table) (cap : Option ℕ) (k : ℕ) (rows : List SourceRow) (lists : List (List ℕ))
    → Some k ≡ cap → lists ≡ numbers_of rows → AreLeastRows t cap rows → AreExactRows (Related t)
    (length t) k lists
some_exact t cap k rows lists is same h =
    subst (λ (ls : List (List ℕ)). AreExactRows (Related t) (length t) k ls) (sym same)
    (subst (λ (o : Option ℕ). AreExactRows (Related t) (length t) (unwrap_or o (length t))
    (numbers_of rows)) (sym is) h.exact)

-- the list of a vector among rows
pub row_seen : (rows : List (Vec ℕ Global)) (v : ℕ) (row : Vec ℕ Global) → v < length rows
    → row ≡ get_or rows v row → get_or (lists_of rows) v [] ≡ row.items
row_seen rows v row at read =
    get_or-map (λ (r : Vec ℕ Global). r.items) rows v row [] at
    ∙ ap (λ (r : Vec ℕ Global). r.items) (sym read)
