-- An overlook in words: the store, the load, and what the load read instead.
use Rattle.std.specs.Prelude.{◌++◌, ℕ, List, Option, Some, None, codes, decimal}
use Rattle.event_texts.specs.Names.{Names}
use Rattle.recording.specs.Event.{written_address}
use Rattle.recording.specs.Execution.{Execution, event_at, source_of}
use Rattle.explanation.specs.Diy.{diy_overlook_line}
use Rattle.event_texts.specs.Events.{event_line, indent, written_text}

-- what is said first of an overlook
abbrev pub overlook_heading : ℕ → ℕ → List ℕ
overlook_heading l s = codes "No memory order explains this recording: event " ++ decimal l
    ++ (codes " overlooks event " ++ (decimal s ++ codes ", a newer write of its own core.\n"))

-- the line that says that the store is before the load
abbrev pub store_line : Execution → ℕ → List ℕ
store_line x l = indent x ++ (codes "before " ++ (decimal l ++ codes " in program order\n"))

-- the lines that say what was read instead: an older write, or the initial value
abbrev pub instead_lines : Execution → Names → List ℕ → Option ℕ → List ℕ
instead_lines x names address None =
    indent x ++ (codes "the initial value is older than each write of " ++ (address ++ codes "\n"))
instead_lines x names address (Some w) = indent x ++ (codes "read it from " ++ (decimal w
    ++ (codes ", which is older in the write list of " ++ (address ++ codes "\n")))) ++ event_line x names w

-- an overlook in words, and in those of diy
unfoldable pub overlook_text : Execution → Names → ℕ → ℕ → List ℕ
overlook_text x names l s = overlook_heading l s ++ event_line x names s ++ store_line x l
    ++ event_line x names l
    ++ (instead_lines x names (written_text names (written_address (event_at x s))) (source_of x l)
    ++ diy_overlook_line (event_at x l) (event_at x s))
