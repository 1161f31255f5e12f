-- Values that were seen of an execution, and whether TSO allows them.
use Rattle.std.specs.Prelude.{◌≡◌, ◌==◌, ◌↔◌, Bool, true, false, List, slice_index}
use Rattle.std.specs.List.{list_all, list_any}
use Rattle.program.specs.Parts.{Parts}
use Rattle.outcomes.specs.declared.observed.Observation.{Observation}
use Rattle.outcomes.specs.declared.observed.Observation.TheVariants.{Read, Final}
use Rattle.outcomes.specs.Outcome.{AreOutcomes, IsAllowed, Outcome}

-- two values are of one event, or of one address
abbrev pub is_of_one : Observation → Observation → Bool
is_of_one (Read e v) (Read f w) = e == f
is_of_one (Final a v) (Final b w) = a == b
is_of_one x other = false

-- the outcome has the value that was seen
abbrev pub shows : Outcome → Observation → Bool
shows o (Read e v) = slice_index o.reads e == v
shows o (Final a v) = slice_index o.memory a == v

-- it has all of them
abbrev pub shows_all : Outcome → List Observation → Bool
shows_all o seen = list_all (shows o) seen

-- one of the outcomes has
abbrev pub explains : List Outcome → List Observation → Bool
explains os seen = list_any (λ o. shows_all o seen) os

-- TSO allows what was seen of the program: one outcome that it allows has all of it
abbrev pub IsExplained : Parts → List Observation → Type 0
IsExplained p seen = (o : Outcome) × IsAllowed p o × (shows_all o seen ≡ true)

-- the outcomes of a program explain what TSO allows, and nothing else
abbrev pub ExplainsAllowed : List Outcome → List Observation → Type 0
ExplainsAllowed os seen = (p : Parts) → AreOutcomes p os → (explains os seen ≡ true) ↔ IsExplained p seen
