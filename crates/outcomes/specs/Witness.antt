-- A recording of the first outcome that has some values.
use Rattle.std.specs.Prelude.{◌≡◌, ℕ, Option, Some, List, find, option_map, slice_get}
use Rattle.program.specs.declared.op.Op.{Op}
use Rattle.program.specs.declared.op.Op.TheVariants.{St}
use Rattle.program.specs.Parts.{Parts}
use Rattle.recording.specs.Execution.{Execution}
use Rattle.recording.specs.FirstUse.{IsNumberedByFirstUse}
use Rattle.recording.specs.Tso.{IsTsoOrder}
use Rattle.program_events.specs.ProgramOf.{IsProgramOf}
use Rattle.outcomes.specs.declared.moves.Move.{Move}
use Rattle.outcomes.specs.declared.moves.Move.TheVariants.{Exec, Drain}
use Rattle.outcomes.specs.declared.observed.Observation.{Observation}
use Rattle.outcomes.specs.declared.witness.Witness.{Witness}
use Rattle.outcomes.specs.declared.witness.Witness.TheVariants.{Forbidden, Found, Unfinished}
use Rattle.outcomes.specs.Listed.{AreListed}
use Rattle.outcomes.specs.Observed.{IsExplained, shows_all}
use Rattle.outcomes.specs.Outcome.{IsOutcomeOf, Outcome}
use Rattle.outcomes.specs.Reachable.{HasMore, outcome_in}
use Rattle.outcomes.specs.Situation.{IsEnd, ops_of}
use Rattle.situations.specs.Situation.{Situation, drained_of, place_of, waiting}
use Rattle.situations.specs.Step.{stored_by_op}
use Rattle.situations.specs.Waiting.{oldest}

-- the operation that a move of core c performs
abbrev pub op_moved : List (List Op) → Situation → Move → ℕ → Option Op
op_moved p r Exec c = slice_get (ops_of p c) (place_of r c)
op_moved p r Drain c = option_map (λ x. St x.address x.value) (oldest stored_by_op (drained_of r c) (waiting p r c))

-- the situation with number i is at its end, with the outcome
pub record IsEndingAt (p : List (List Op)) (rows : List Situation) (o : Outcome) (i : ℕ) : Type 0 where
  pub situation : Situation
  pub there : slice_get rows i ≡ Some situation
  pub end : IsEnd p situation
  pub outcome : outcome_in situation ≡ o

-- the first of these outcomes that has the values
abbrev pub first_showing : List Outcome → List Observation → Option Outcome
first_showing os seen = find (λ o. shows_all o seen) os

-- the first that has the values, in the list of the outcomes that TSO allows of the program
pub record IsFirst (p : Parts) (seen : List Observation) (o : Outcome) : Type 0 where
  pub outcomes : List Outcome
  pub listed : AreListed p outcomes
  pub first : first_showing outcomes seen ≡ Some o

-- a recording of the program that comes to the outcome, has a TSO order, and has its addresses numbered by first use
pub record IsRecordingOf (p : Parts) (o : Outcome) (x : Execution) : Type 0 where
  pub program : IsProgramOf p x
  pub outcome : IsOutcomeOf x o
  pub order : List ℕ
  pub tso : IsTsoOrder x order
  pub numbered : IsNumberedByFirstUse x

-- a recording of the first outcome with the values, or that TSO allows none, or that there are more states than this
abbrev pub IsWitness : Parts → ℕ → List Observation → Witness → Type 0
IsWitness p limit seen (Found x) = (o : Outcome) × IsFirst p seen o × IsRecordingOf p o x
IsWitness p limit seen Forbidden = ¬ IsExplained p seen
IsWitness p limit seen Unfinished = HasMore p limit
