-- A legal desk: its words, and what each seat claimed, filed and saw.
use Rattle.std.specs.Prelude.{◌≡◌, ◌≢◌, ◌⊎◌, ℕ, true, false, List, [], ◌∷◌, ◌++◌, length, slice_index, Contains}
use mathlib.Core.Option.{some}
use lib.ListN.{get_elem?}
use Rattle.atomic_table.specs.Table.{State, Me, Step}
use Rattle.program.specs.declared.fault.Fault.TheVariants.{None}
use Rattle.trials.specs.declared.desk_table.SeatKnowledge.{SeatKnowledge}
use Rattle.trials.specs.Campaigns.{Plan}
use Rattle.trials.specs.Codes.{IsCode}

-- the state of a desk: a word for each trial, a view for each seat
abbrev pub DeskState : Type 0
DeskState = State (Unit {0}) SeatKnowledge

-- what a seat itself knows
abbrev pub Mine : Type 0
Mine = Me (Unit {0}) SeatKnowledge

-- the first seat, the only one: nothing claimed, nothing seen
abbrev pub first_view : Plan → SeatKnowledge
first_view p =
    record { live = true; alone = true; campaign = p; share = []; filed = []; seen = []; read = [] }

-- a plan that no seat carries
abbrev pub no_plan : Plan
no_plan = record {
  shape = record { cores = 0; ops = 0; addresses = 0 };
  base = 0;
  trials = 0;
  attempts = 0;
  capacity = 0;
  fault = None;
}

-- a seat that was merged into another
abbrev pub spent_view : SeatKnowledge
spent_view =
    record { live = false; alone = false; campaign = no_plan; share = []; filed = []; seen = []; read = [] }

-- another seat stands beside it
abbrev pub with_others : SeatKnowledge → SeatKnowledge
with_others v = record v { alone = false }

-- that seat: the same seen, nothing claimed
abbrev pub without_share : SeatKnowledge → SeatKnowledge
without_share v = record v { alone = false; share = []; filed = [] }

-- both shares, and all that either has seen
abbrev pub joined_views : SeatKnowledge → SeatKnowledge → SeatKnowledge
joined_views v w = record v {
  alone = false;
  share = v.share ++ w.share;
  filed = v.filed ++ w.filed;
  seen = v.seen ++ w.seen;
  read = v.read ++ w.read;
}

-- the trial joins the share
abbrev pub claimed : SeatKnowledge → ℕ → SeatKnowledge
claimed v k = record v { share = v.share ++ k ∷ []; seen = v.seen ++ k ∷ [] }

-- the trial was seen at least claimed
abbrev pub saw_claimed : SeatKnowledge → ℕ → SeatKnowledge
saw_claimed v k = record v { seen = v.seen ++ k ∷ [] }

-- the trial was seen filed
abbrev pub saw_filed : SeatKnowledge → ℕ → SeatKnowledge
saw_filed v k = record v { seen = v.seen ++ k ∷ []; read = v.read ++ k ∷ [] }

-- the trial of the share is filed
abbrev pub completed : SeatKnowledge → ℕ → SeatKnowledge
completed v k = record v { filed = v.filed ++ k ∷ []; read = v.read ++ k ∷ [] }

-- what a view says of trial k, whose word is n: a claimed trial is not open, a filed one has its code, and no
-- seat has seen more than the word holds
abbrev pub FitsAt : SeatKnowledge → ℕ → ℕ → Type 0
FitsAt v k n =
    (Contains v.share k → n ≢ 0)
    × (Contains v.filed k → Contains v.share k × IsCode v.campaign k n)
    × (Contains v.share k → (Contains v.filed k → ⊥) → n ≡ 1)
    × (Contains v.seen k → n ≢ 0)
    × (Contains v.read k → IsCode v.campaign k n)

-- a word is open, claimed or the code of its trial
abbrev pub IsDeskWord : Plan → ℕ → ℕ → Type 0
IsDeskWord p k n = (n ≡ 0) ⊎ ((n ≡ 1) ⊎ IsCode p k n)

-- a legal desk of a campaign
pub record Legal (p : Plan) (s : DeskState) : Type 0 where
  pub size : length s.words ≡ p.trials
  pub words : (k : ℕ) → IsDeskWord p k (slice_index s.words k)
  pub carried : (i : ℕ) (v : SeatKnowledge) → get_elem? s.views i ≡ some v → v.live ≡ true → v.campaign ≡ p
  pub fits : (i : ℕ) (v : SeatKnowledge) → get_elem? s.views i ≡ some v → (k : ℕ) → FitsAt v k (slice_index s.words k)
  pub alone : (i j : ℕ) (v w : SeatKnowledge) → get_elem? s.views i ≡ some v → get_elem? s.views j ≡ some w → (k : ℕ)
      → Contains v.share k → Contains w.share k → i ≡ j
  pub owned : (k : ℕ) → slice_index s.words k ≢ 0
      → (i : ℕ) × (v : SeatKnowledge) × (get_elem? s.views i ≡ some v) × Contains v.share k
  pub sole : (i : ℕ) (v : SeatKnowledge) → get_elem? s.views i ≡ some v → v.alone ≡ true → length s.views ≡ 1

-- in each legal desk in which a seat has this view all words are 0
abbrev pub AreAllOpen : SeatKnowledge → Type 0
AreAllOpen v = (s : DeskState) (i : ℕ) → Legal v.campaign s → get_elem? s.views i ≡ some v
    → (k : ℕ) → slice_index s.words k ≡ 0

-- at some legal moment the seat had this view and the word of the trial was n
abbrev pub Was : SeatKnowledge → ℕ → ℕ → Type 0
Was v k n = (s : DeskState) × (i : ℕ) × Legal v.campaign s × (get_elem? s.views i ≡ some v)
    × (slice_index s.words k ≡ n)

-- a compare-exchange from 0 to 1 that found n
abbrev pub ClaimStep : Step (Unit {0}) → Mine → ℕ → Mine → Type 0
ClaimStep st m n m' = Was m.0 st.word n × (m'.1 ≡ m.1) × (n ≡ 0 → m'.0 ≡ claimed m.0 st.word)
    × (n ≢ 0 → m'.0 ≡ saw_claimed m.0 st.word)

-- a store of a code
abbrev pub FileStep : Step (Unit {0}) → Mine → ℕ → Mine → Type 0
FileStep st m n m' = (m'.1 ≡ m.1) × (m'.0 ≡ completed m.0 st.word)

-- a load that found n
abbrev pub LookStep : Step (Unit {0}) → Mine → ℕ → Mine → Type 0
LookStep st m n m' = Was m.0 st.word n × (m'.1 ≡ m.1) × (n ≡ 0 → m'.0 ≡ m.0)
    × (n ≡ 1 → m'.0 ≡ saw_claimed m.0 st.word)
    × (n ≢ 0 → n ≢ 1 → (m'.0 ≡ saw_filed m.0 st.word) × IsCode m.0.campaign st.word n)

-- these words are those of a legal desk, in which a seat has this view
abbrev pub AreDeskWords : SeatKnowledge → List ℕ → Type 0
AreDeskWords v ws = (s : DeskState) × (i : ℕ) × Legal v.campaign s × (get_elem? s.views i ≡ some v)
    × (s.words ≡ ws)
