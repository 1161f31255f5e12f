-- Why TSO forbids what a line of a log says: what is answered of its values.
use Rattle.std.specs.Prelude.{◌+◌, ◌==◌, ◌≡◌, ◌++◌, ◌∷◌, [], ℕ, zero, suc, Bool, true, false, if◌then◌else◌, List}
use Rattle.std.specs.Prelude.{Option, Some, None, length, map, option_and_then, option_map, slice_index_or}
use Rattle.std.specs.List.{range_with_len}
use Rattle.std.specs.Option.{option_or}
use Rattle.program.specs.declared.op.Op.{Op}
use Rattle.program.specs.Parts.{Parts}
use Rattle.recording.specs.declared.event.Event.{Event}
use Rattle.program_events.specs.ProgramOf.{event_of}
use Rattle.machine.specs.State.{first_event}
use Rattle.values.specs.Values.{Values, unsourced}
use Rattle.outcomes.specs.declared.observed.Observation.{Observation}
use Rattle.outcomes.specs.declared.observed.Observation.TheVariants.{Read, Final}
use Rattle.outcomes.specs.Observed.{explains}
use Rattle.outcomes.specs.Outcome.{Outcome}
use Rattle.outcomes.specs.Situation.{does_read}
use Rattle.outcome_texts.specs.Seen.{Seen}
use Rattle.verdicts.specs.declared.printed.Answer.{Answer}
use Rattle.program_answers.specs.Completion.{IsCompletionAnswer}

-- the value that event e read, as a line says
abbrev pub value_seen : List Observation → ℕ → Option ℕ
value_seen [] e = None
value_seen (Read f v ∷ seen) e = if f == e then Some v else value_seen seen e
value_seen (Final a v ∷ seen) e = value_seen seen e

-- the value that address a ended with
abbrev pub final_seen : List Observation → ℕ → Option ℕ
final_seen [] a = None
final_seen (Read e v ∷ seen) a = final_seen seen a
final_seen (Final b v ∷ seen) a = if b == a then Some v else final_seen seen a

-- event e, which an operation makes, if it reads nothing, or a line says what it read
abbrev pub event_seen : Op → List Observation → ℕ → Option Event
event_seen op seen e =
    if does_read op then option_map (λ v. event_of op (v, None)) (value_seen seen e) else Some (event_of op (0, None))

-- these events of a core, and those of the operations after them, of which the next has number e
abbrev pub events_seen : ℕ → List Event → List Op → List Observation → Option (List Event)
events_seen e events [] seen = Some events
events_seen e events (op ∷ ops) seen =
    option_and_then (λ event. events_seen (e + 1) (events ++ event ∷ []) ops seen) (event_seen op seen e)

-- the events of core c
abbrev pub core_seen : Parts → ℕ → List Observation → Option (List Event)
core_seen p c seen = events_seen (first_event p.cores c) [] (slice_index_or p.cores c []) seen

-- these cores, and n more, of which the next has number c
abbrev pub cores_seen : Parts → ℕ → ℕ → List (List Event) → List Observation → Option (List (List Event))
cores_seen p c zero cores seen = Some cores
cores_seen p c (suc n) cores seen =
    option_and_then (λ events. cores_seen p (c + 1) n (cores ++ events ∷ []) seen) (core_seen p c seen)

-- what each address ended with, where a line says it
abbrev pub finals_seen : ℕ → List Observation → List (Option ℕ)
finals_seen n seen = map (final_seen seen) (range_with_len 0 n)

-- the values of a run of a program, if a line says what each operation read
abbrev pub values_seen : Parts → List Observation → Option Values
values_seen p seen = option_map (λ cores. record {
  cores = map (map unsourced) cores;
  sources = [];
  initial = p.init;
  final_values = finals_seen (length p.names) seen;
}) (cores_seen p 0 (length p.cores) [] seen)

-- the values of the first line that none of the outcomes has and that says what each operation read, if there is one
abbrev pub first_values : Parts → List Outcome → List Seen → Option Values
first_values p os [] = None
first_values p os (line ∷ lines) =
    if explains os line.items then first_values p os lines
    else option_or (values_seen p line.items) (first_values p os lines)

-- an empty line, and what is answered of these values; nothing where there are none
abbrev pub IsAnsweredOf : ℕ → Option Values → List ℕ → Type 0
IsAnsweredOf states None text = text ≡ []
IsAnsweredOf states (Some v) text =
    (answer : Answer) × IsCompletionAnswer v states answer × (text ≡ 10 ∷ answer.text.items)

abbrev pub IsWhy : ℕ → Parts → List Outcome → List Seen → List ℕ → Type 0
IsWhy states p os lines text = IsAnsweredOf states (first_values p os lines) text

-- what is printed after a report, if it is asked for
abbrev pub IsWhyAsked : Bool → ℕ → Parts → List Outcome → List Seen → List ℕ → Type 0
IsWhyAsked false states p os lines text = text ≡ []
IsWhyAsked true states p os lines text = IsWhy states p os lines text
