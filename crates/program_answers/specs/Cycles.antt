-- What is answered of critical cycles.
use Rattle.std.specs.Prelude.{◌≡◌, ◌⊎◌, ◌++◌, ◌∷◌, [], ℕ, zero, suc, Bool, true, false, if◌then◌else◌, List, length}
use Rattle.std.specs.Prelude.{slice_index_or}
use Rattle.recording.specs.Execution.{Execution}
use Rattle.recording.specs.Tso.{IsTsoOrder}
use Rattle.relations.specs.Consistency.{HasNoOrder}
use Rattle.verdicts.specs.declared.printed.Answer.{Answer}
use Rattle.verdicts.specs.declared.outcome.Outcome.TheVariants.{Done}
use Rattle.cycles.specs.declared.making.Made.{Made}
use Rattle.cycles.specs.declared.refusal.CycleRefusal.{CycleRefusal}
use Rattle.cycles.specs.Listing.{cycle_text, listed}
use Rattle.cycles.specs.Made.{IsMade, IsRefusal}
use Rattle.program_answers.specs.declared.made_answers.CycleChoice.{CycleChoice}
use Rattle.program_answers.specs.declared.made_answers.CycleChoice.TheVariants.{Each, Forbidden}
use Rattle.program_answers.specs.Outcomes.{IsText}

-- TSO allows a recording, or does not
abbrev pub IsSaidToBeAllowed : Execution → Bool → Type 0
IsSaidToBeAllowed x true = (o : List ℕ) × IsTsoOrder x o
IsSaidToBeAllowed x false = HasNoOrder x

-- TSO forbids the recording that is made of these words; or it allows it, or nothing is made of them
abbrev pub IsSaidToBeForbidden : List ℕ → Bool → Type 0
IsSaidToBeForbidden text true = (m : Made) × IsMade text m × HasNoOrder m.recording
IsSaidToBeForbidden text false = ((m : Made) × IsMade text m × (o : List ℕ) × IsTsoOrder m.recording o)
    ⊎ ((r : CycleRefusal) × IsRefusal text r)

-- the line of a cycle is wanted: of each, or of those alone that TSO forbids
abbrev pub IsWanted : CycleChoice → List ℕ → Bool → Type 0
IsWanted Each text wanted = wanted ≡ true
IsWanted Forbidden text wanted = IsSaidToBeForbidden text wanted

-- the line of a cycle
abbrev pub cycle_line : List ℕ → List ℕ
cycle_line blocks = cycle_text blocks ++ 10 ∷ []

-- the line of a cycle of these blocks, if it is wanted
abbrev pub IsPick : CycleChoice → List ℕ → List ℕ → Type 0
IsPick choice blocks line = (wanted : Bool) × IsWanted choice (cycle_text blocks) wanted
    × (line ≡ (if wanted then cycle_line blocks else []))

-- the lines of the first n cycles
abbrev pub ArePicked : CycleChoice → List (List ℕ) → ℕ → List ℕ → Type 0
ArePicked choice cycles zero text = text ≡ []
ArePicked choice cycles (suc n) text = (before : List ℕ) × (line : List ℕ) × ArePicked choice cycles n before
    × IsPick choice (slice_index_or cycles n []) line × (text ≡ before ++ line)

-- the lines of the critical cycles with at most this many events that are chosen
pub record IsListAnswer (events : ℕ) (choice : CycleChoice) (answer : Answer) : Type 0 where
  pub text : List ℕ
  pub lines : ArePicked choice (listed events) (length (listed events)) text
  pub said : IsText Done text answer
