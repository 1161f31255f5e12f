-- A memory order in words: each event, and what makes its place lawful.
use Rattle.std.specs.Prelude.{◌++◌, ◌∷◌, ◌-◌, ◌==◌, [], ℕ, List, Option, Some, None, codes, decimal}
use Rattle.std.specs.Prelude.{nat_lt, slice_index, if◌then◌else◌}
use Rattle.std.specs.List.{flat_map}
use Rattle.event_texts.specs.Names.{Names}
use Rattle.recording.specs.declared.event.Event.{Event}
use Rattle.recording.specs.declared.event.Event.TheVariants.{L, S, R, C, F}
use Rattle.recording.specs.Execution.{Execution, event_at, write_list}
use Rattle.recording.specs.Order.{place}
use Rattle.event_texts.specs.Events.{event_line, indent, address_text}

-- the end of a line that says where the write of a value stands in the order m: before the event, or after
-- it, and then the value was forwarded
unfoldable pub source_words : List ℕ → ℕ → List ℕ → Option ℕ → List ℕ
source_words m e address None = codes "no write of " ++ (address ++ codes " is before it\n")
source_words m e address (Some s) = if nat_lt (place m s) (place m e)
    then decimal s ++ (codes " is the last write of " ++ (address ++ codes " before it\n"))
    else codes "forwarded from its core's store buffer, which " ++ (decimal s ++ codes " leaves later\n")

-- the line that says why an event reads its value of an address
abbrev pub read_line : Execution → Names → List ℕ → ℕ → ℕ → Option ℕ → List ℕ
read_line x names m e a s = indent x ++ source_words m e (address_text names a) s

-- the end of a line that says what stands before an event in the write list of an address
unfoldable pub write_words : List ℕ → ℕ → List ℕ → List ℕ
write_words list e address = if place list e == 0
    then codes "the first write of " ++ (address ++ codes "\n")
    else codes "the next write of " ++ (address ++ (codes " after "
    ++ (decimal (slice_index list (place list e - 1)) ++ codes "\n")))

-- the line that says where an event stands among the writes of an address
abbrev pub write_line : Execution → Names → ℕ → ℕ → List ℕ
write_line x names e a = indent x ++ write_words (write_list x a) e (address_text names a)

-- the lines that say what makes the place of an event lawful
unfoldable pub lawful_lines : Execution → Names → List ℕ → ℕ → Event → List ℕ
lawful_lines x names m e (L a r s) = read_line x names m e a s
lawful_lines x names m e (S a w) = write_line x names e a
lawful_lines x names m e (R a r s w) = read_line x names m e a s ++ write_line x names e a
lawful_lines x names m e (C a r s) = read_line x names m e a s
lawful_lines x names m e F = indent x ++ (codes "after what its core did before it" ++ 10 ∷ [])

-- the lines of an event
abbrev pub placed_lines : Execution → Names → List ℕ → ℕ → List ℕ
placed_lines x names m e = event_line x names e ++ lawful_lines x names m e (event_at x e)

-- a memory order in words
abbrev pub order_text : Execution → Names → List ℕ → List ℕ
order_text x names m = (codes "TSO allows this recording. Its events in memory order:" ++ 10 ∷ [])
    ++ flat_map (placed_lines x names m) m
