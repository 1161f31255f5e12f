-- The rule of the shared bound: none or the length of a cycle that some seat knows, and never above a length
-- that a seat knows.
use Rattle.std.specs.Prelude.{◌≡◌, ◌≢◌, ◌⊎◌, ℕ, ◌≤◌, ◌<◌, true, false, List, [], ◌∷◌, ◌++◌, length}
use Rattle.std.specs.Prelude.{slice_index, Contains}
use mathlib.Core.Option.{some}
use lib.ListN.{get_elem?}
use Rattle.atomic_table.specs.Table.{State, Me, Step}
use Rattle.relations.specs.Relation.{Table, Related}
use Rattle.relations.specs.Cycle.{IsCycle}
use Rattle.best.specs.declared.rule.Known.{Known}
use Rattle.best.specs.declared.rule.SeatView.{SeatView}

-- some cycle, no longer than the number of events, has this length
abbrev pub IsLength : Table → ℕ → Type 0
IsLength t k = (c : List ℕ) × IsCycle (Related t) c × (length c ≡ k) × (k ≤ length t)

-- the word that stands for none
abbrev pub none_word : ℕ
none_word = 18446744073709551615

-- what a first seat knows
abbrev pub first_bound : Table → Known
first_bound t = record { live = true; relation = t; lengths = [] }

-- what a seat carries that was merged into another
abbrev pub spent_bound : Known
spent_bound = record { live = false; relation = []; lengths = [] }

-- what either of two seats knew
abbrev pub joined_bounds : Known → Known → Known
joined_bounds v w = record { live = v.live; relation = v.relation; lengths = v.lengths ++ w.lengths }

-- one length more is known
abbrev pub knows : Known → ℕ → Known
knows v k = record { live = v.live; relation = v.relation; lengths = v.lengths ++ k ∷ [] }

-- the view of the first seat, the only one
abbrev pub first_bound_view : Table → SeatView
first_bound_view t = record { known = first_bound t; alone = true }

-- the view of a seat that was merged into another
abbrev pub spent_bound_view : SeatView
spent_bound_view = record { known = spent_bound; alone = false }

-- another seat stands beside it
abbrev pub bound_with_others : SeatView → SeatView
bound_with_others v = record { known = v.known; alone = false }

-- the view of one seat for two
abbrev pub joined_bound_views : SeatView → SeatView → SeatView
joined_bound_views v w = record { known = joined_bounds v.known w.known; alone = false }

-- one length more is known there
abbrev pub knowing : SeatView → ℕ → SeatView
knowing v k = record { known = knows v.known k; alone = v.alone }

-- the word is at most each length that is known
abbrev pub Bounded : Known → ℕ → Type 0
Bounded v n = (k : ℕ) → Contains v.lengths k → (n ≤ k) × (k < 65536)

-- the word between any two steps
pub record LegalBest (t : Table) (s : State (Unit {0}) SeatView) : Type 0 where
  pub size : length s.words ≡ 1
  pub word : (slice_index s.words 0 ≡ none_word)
      ⊎ (IsLength t (slice_index s.words 0) × (slice_index s.words 0 < 65536))
  pub carried : (i : ℕ) (v : SeatView) → get_elem? s.views i ≡ some v → v.known.live ≡ true
      → v.known.relation ≡ t
  pub bounded : (i : ℕ) (v : SeatView) → get_elem? s.views i ≡ some v → Bounded v.known (slice_index s.words 0)
  pub owned : slice_index s.words 0 ≢ none_word
      → (i : ℕ) × (v : SeatView) × (get_elem? s.views i ≡ some v)
      × Contains v.known.lengths (slice_index s.words 0)
  pub sole : (i : ℕ) (v : SeatView) → get_elem? s.views i ≡ some v → v.alone ≡ true → length s.views ≡ 1

-- in each legal state in which a seat has this view the word is none
abbrev pub IsUnset : SeatView → Type 0
IsUnset v = (s : State (Unit {0}) SeatView) (i : ℕ) → LegalBest v.known.relation s
    → get_elem? s.views i ≡ some v → slice_index s.words 0 ≡ none_word

-- the seat knows the length that it lowered to
abbrev pub LowerStep : Step (Unit {0}) → Me (Unit {0}) SeatView → ℕ → Me (Unit {0}) SeatView → Type 0
LowerStep st m n m' = (m'.1 ≡ m.1) × (m'.0 ≡ knowing m.0 st.first)

-- the word was at most each known length; a length is that of a cycle, and known from then on
abbrev pub LoadsBound : Known → ℕ → Known → Type 0
LoadsBound v n w = Bounded v n × (n ≡ none_word → w ≡ v)
    × (n ≢ none_word → (w ≡ knows v n) × IsLength v.relation n × (n < 65536))

-- so for a seat; where it is the only one, it knew a length that it loads
abbrev pub LoadsView : SeatView → ℕ → SeatView → Type 0
LoadsView v n w = LoadsBound v.known n w.known × (w.alone ≡ v.alone)
    × (v.alone ≡ true → n ≢ none_word → Contains v.known.lengths n)

-- a load that found n
abbrev pub ReadStep : Step (Unit {0}) → Me (Unit {0}) SeatView → ℕ → Me (Unit {0}) SeatView → Type 0
ReadStep st m n m' = (m'.1 ≡ m.1) × LoadsView m.0 n m'.0
