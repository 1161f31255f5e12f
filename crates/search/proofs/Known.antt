-- What a seat knows after the calls of the bound.
use Rattle.std.proofs.Common.{◌≡◌, ◌≤◌, ℕ, Option, None, Some, List, [], ◌∷◌, ◌++◌}
use Rattle.std.proofs.Common.{length, IfSome, Contains, arith, refl, sym, subst}
use Rattle.std.specs.Option.{unwrap_or}
use Rattle.std.proofs.lemmas.List.Elements.{Contains-append_left, Contains-append_right}
use Rattle.relations.specs.Relation.{Table, Related}
use Rattle.best.specs.declared.rule.Known.{Known}
use Rattle.best.specs.Rule.{IsLength, knows}
use Rattle.best.specs.Seats.{IsBoundRead}
use Rattle.search.specs.SourceRow.{IsCycleLength}
use Rattle.search.specs.Bound.{Keeps, IsCapWithin}

-- the last of a list is in it
pub in_snoc : (lengths : List ℕ) (k : ℕ) → Contains (lengths ++ k ∷ []) k
in_snoc lengths k = Contains-append_right lengths (k ∷ []) k (0, omega arith, refl)

-- one length more
pub knows_keeps : (v w : Known) (k : ℕ) → w ≡ knows v k → Keeps v.lengths w.lengths
knows_keeps v w k is q h = subst (λ (x : Known). Contains x.lengths q) (sym is)
    (Contains-append_left v.lengths (k ∷ []) q h)

-- and it is known
pub knows_it : (v w : Known) (k : ℕ) → w ≡ knows v k → Contains w.lengths k
knows_it v w k is = subst (λ (x : Known). Contains x.lengths k) (sym is) (in_snoc v.lengths k)

-- and what was known
pub read_keeps : (v w : Known) (o : Option ℕ) → IsBoundRead v o w → Keeps v.lengths w.lengths
read_keeps v w None h = λ q k. subst (λ (x : Known). Contains x.lengths q) (sym h.0) k
read_keeps v w (Some n) h = knows_keeps v w n h.0

-- its answer is known from then on
pub read_known : (v w : Known) (o : Option ℕ) → IsBoundRead v o w → IfSome o (λ k. Contains w.lengths k)
read_known v w None h = tt
read_known v w (Some n) h = knows_it v w n h.0

-- it is at most each length that was known
pub read_within : (v w : Known) (o : Option ℕ) → IsBoundRead v o w → IsCapWithin v.lengths o
read_within v w None h = h.1
read_within v w (Some n) h = h.2

-- it is the length of a cycle
pub read_cycle : (t : Table) (v w : Known) (o : Option ℕ) → v.relation ≡ t → IsBoundRead v o w
    → IsCycleLength (Related t) o
read_cycle t v w None of h = tt
read_cycle t v w (Some n) of h = let is : IsLength t n = subst (λ (x : Table). IsLength x n) of h.1 in
    (is.0, is.1, is.2)

-- of no more than all events
pub read_few : (t : Table) (v w : Known) (o : Option ℕ) → v.relation ≡ t → IsBoundRead v o w
    → unwrap_or o (length t) ≤ length t
read_few t v w None of h = omega arith
read_few t v w (Some n) of h = let is : IsLength t n = subst (λ (x : Table). IsLength x n) of h.1 in is.3
