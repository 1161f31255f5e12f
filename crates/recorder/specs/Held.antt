-- What is held of a text with more cores, events or write lists than a recording of a size may have: as many as show
-- that, so that a long text takes no room for the others.
use Rattle.std.specs.Prelude.{◌≡◌, ◌<◌, ◌⊎◌, ℕ, List, Option, None, Some, length, sum_by}
use Rattle.std.specs.List.{list_any}
use Rattle.recording.specs.declared.event.Event.{Event}
use Rattle.recording.specs.declared.size.RecordingSize.{RecordingSize}
use Rattle.recording.specs.Event.{is_failed_cas}
use Rattle.recording.specs.Sizes.{most_cores, most_events, most_addresses}
use Rattle.recorder.specs.Text.{has_failed_cas}
use Rattle.recorder.specs.ParsedModel.{ParsedModel}

-- the events of a core; or too many of too many, in which a compare-and-swap failed where one did in all
abbrev pub HoldsEvents : RecordingSize → List Event → List Event → Type 0
HoldsEvents size held events = (held ≡ events)
    ⊎ ((most_events size < length held) × (most_events size < length events)
    × (list_any is_failed_cas held ≡ list_any is_failed_cas events))

-- more cores or events than a recording may have
abbrev pub AreTooMany : RecordingSize → List (List Event) → Type 0
AreTooMany size cores = (most_cores size < length cores) ⊎ (most_events size < sum_by (λ es. length es) cores)

-- the cores; or too many of too many, in which a compare-and-swap failed where one did in all
abbrev pub HoldsCores : RecordingSize → List (List Event) → List (List Event) → Type 0
HoldsCores size held cores = (held ≡ cores)
    ⊎ (AreTooMany size held × AreTooMany size cores × (has_failed_cas held ≡ has_failed_cas cores))

-- the write lists, or too many of too many
abbrev pub HoldsLists : RecordingSize → List (List ℕ) → List (List ℕ) → Type 0
HoldsLists size held lists = (held ≡ lists)
    ⊎ ((most_addresses size < length held) × (most_addresses size < length lists))

-- what is held of something that may be there
abbrev pub HoldsSome : {A : Type 0} → (A → A → Type 0) → Option A → Option A → Type 0
HoldsSome Holds None o = o ≡ None
HoldsSome {A} Holds (Some x) o = (y : A) × (o ≡ Some y) × Holds x y

-- what is held of the contents of a text
pub record StandsFor (size : RecordingSize) (held c : ParsedModel) : Type 0 where
  pub version : held.version ≡ c.version
  pub values : held.values ≡ c.values
  pub cores : HoldsCores size held.cores c.cores
  pub lists : HoldsLists size held.write_lists c.write_lists
