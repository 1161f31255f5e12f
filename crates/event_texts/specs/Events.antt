-- What is said of an event: a line with its number, its core, its operation and its values.
use Rattle.std.specs.Prelude.{◌++◌, ◌∷◌, ◌-◌, ◌==◌, [], ℕ, Option, Some, None, List, codes, decimal, length}
use Rattle.std.specs.Prelude.{if◌then◌else◌, slice_get}
use Rattle.program.specs.declared.name.Name.{Name}
use Rattle.program.specs.Names.{name_text}
use Rattle.recording.specs.declared.event.Event.{Event}
use Rattle.recording.specs.declared.event.Event.TheVariants.{L, S, R, C, F}
use Rattle.recording.specs.Execution.{Execution, event_count, event_at, core_of}
use Rattle.texts.specs.Numbers.{digits, spaces, aligned}
use Rattle.event_texts.specs.Names.{Names, label_of}

-- how many digits the greatest number of an event has, and of a core
abbrev pub event_width : Execution → ℕ
event_width x = digits (event_count x - 1)

abbrev pub core_width : Execution → ℕ
core_width x = digits (length x.cores - 1)

-- the name of address a; where it has none the letter a, and its number
abbrev pub name_or_number : Option Name → ℕ → List ℕ
name_or_number (Some name) a = name_text name
name_or_number None a = codes "a" ++ decimal a

abbrev pub address_text : Names → ℕ → List ℕ
address_text names a = name_or_number (slice_get names.addresses a) a

-- the name of the address that an event writes
abbrev pub written_text : Names → Option ℕ → List ℕ
written_text names None = []
written_text names (Some a) = address_text names a

-- where a value came from
abbrev pub source_text : Option ℕ → List ℕ
source_text None = codes ", the initial value"
source_text (Some s) = codes ", from " ++ decimal s

-- the address that was read, the value, and where it came from
abbrev pub read_text : Names → ℕ → ℕ → Option ℕ → List ℕ
read_text names a r s = address_text names a ++ codes " = " ++ decimal r ++ source_text s

-- what an event did
unfoldable pub event_text : Names → Event → List ℕ
event_text names (L a r s) = codes "ld " ++ read_text names a r s
event_text names (S a w) = codes "st " ++ address_text names a ++ 32 ∷ decimal w
event_text names (R a r s w) = codes "rmw " ++ read_text names a r s ++ (codes ", wrote " ++ decimal w)
event_text names (C a r s) = codes "cas " ++ read_text names a r s ++ codes ", wrote nothing"
event_text names F = codes "fence"

-- the number of an event and its core
abbrev pub place_text : Execution → ℕ → List ℕ
place_text x e = codes "  " ++ aligned (event_width x) e ++ codes "  core "
    ++ aligned (core_width x) (core_of x e) ++ codes "  "

-- a label in the line of its event
unfoldable pub label_text : List ℕ → List ℕ
label_text label = if length label == 0 then [] else codes "  # " ++ label

-- the line of an event, with its label
unfoldable pub event_line : Execution → Names → ℕ → List ℕ
event_line x names e = place_text x e ++ event_text names (event_at x e) ++ label_text (label_of names e) ++ 10 ∷ []

-- the spaces before what is said of the event above
abbrev pub indent : Execution → List ℕ
indent x = spaces (event_width x) ++ codes "    "
