-- The steps that make a recording again, from a memory order of it.
use Rattle.std.specs.Prelude.{◌+◌, ◌-◌, ℕ, if◌then◌else◌, Option, Some, None, List, [], ◌∷◌, ◌++◌}
use Rattle.std.specs.Prelude.{replicate, max, count_by}
use Rattle.program.specs.declared.op.Op.{Op}
use Rattle.recording.specs.declared.event.Event.{Event}
use Rattle.recording.specs.declared.event.Event.TheVariants.{L, S, R, C, F}
use Rattle.recording.specs.Event.{is_plain_store}
use Rattle.recording.specs.Execution.{Execution, core_of, event_at}
use Rattle.machine.specs.Configuration.{Configuration, state_after}
use Rattle.write_buffer.specs.declared.entry.Entry.{Entry}
use Rattle.write_buffer.specs.Buffer.{youngest}
use Rattle.moesi.specs.Lines.{is_valid, is_exclusive}
use Rattle.moesi.specs.State as moesi
use Rattle.program.specs.declared.fault.Fault.{Fault}
use Rattle.program.specs.declared.fault.Fault.TheVariants as fault
use Rattle.machine.specs.declared.step.Step.{Step}
use Rattle.machine.specs.declared.step.Step.TheVariants.{Exec, Drain, GetS, GetM}
use Rattle.machine.specs.State.{State, place_of, buffer_of, first_event, opening}
use Rattle.machine.specs.Step.{run}
use Rattle.program_events.specs.NamedProgram.{program_of}

-- core c executes its events before e, as far as it has not yet
abbrev pub execute_to : List (List Op) → State → ℕ → ℕ → List Step
execute_to p s c e = replicate (e - (first_event p c + place_of s c)) (Exec c)

-- core c gets the line of address a to write it, unless it is M or E
abbrev pub get_to_write : State → ℕ → ℕ → List Step
get_to_write s c a = if is_exclusive (moesi.line_of s.caches c a) then [] else GetM c a ∷ []

-- core c gets the line of address a to read it, unless a store of its own waits or the line is valid
abbrev pub get_to_read : State → ℕ → ℕ → Option Entry → List Step
get_to_read s c a (Some entry) = []
get_to_read s c a None = if is_valid (moesi.line_of s.caches c a) then [] else GetS c a ∷ []

-- core c performs an event: its oldest store, or else its next operation
abbrev pub perform : State → ℕ → Event → List Step
perform s c (S a w) = get_to_write s c a ++ Drain c ∷ []
perform s c (L a r o) = get_to_read s c a (youngest (buffer_of s c) a) ++ Exec c ∷ []
perform s c (R a r o w) = get_to_write s c a ++ Exec c ∷ []
perform s c (C a r o) = get_to_write s c a ++ Exec c ∷ []
perform s c F = Exec c ∷ []

-- the first event that its core has not executed when event e is performed: a plain store waits in
-- its buffer by then
abbrev pub executed_before : ℕ → Event → ℕ
executed_before e (S a w) = e + 1
executed_before e ev = e

-- the steps of event e of core c: the core executes what comes first, and performs it
abbrev pub turn : List (List Op) → ℕ → Fault → State → ℕ → ℕ → Event → List Step
turn p capacity f s c e ev =
    let first = execute_to p s c (executed_before e ev) in
    first ++ perform (run p capacity f s first) c ev

-- the steps of a list of events, each from the state that those before it lead to
abbrev pub order_steps : Execution → ℕ → Fault → State → List ℕ → List Step
order_steps x capacity f s [] = []
order_steps x capacity f s (e ∷ m) =
    let steps = turn (program_of x) capacity f s (core_of x e) e (event_at x e) in
    steps ++ order_steps x capacity f (run (program_of x) capacity f s steps) m

-- the greatest number of plain stores on one core, and at least 1
abbrev pub most_stores : List (List Event) → ℕ
most_stores [] = 1
most_stores (es ∷ rest) = max (count_by is_plain_store es) (most_stores rest)

-- the steps that perform an order from the start, without fault and with the smallest buffers
abbrev pub replay_steps : Execution → List ℕ → List Step
replay_steps x m =
    order_steps x (most_stores x.cores) fault.None (opening (program_of x) x.initial) m

-- a machine, and the steps that it has taken
pub record Replaying : Type 0 where
  pub machine : Configuration
  pub steps : List Step

-- a machine after more steps, and all steps that it has taken
abbrev pub with_steps : Replaying → List Step → Replaying
with_steps r steps = record {
  machine = record r.machine { state = state_after r.machine steps };
  steps = r.steps ++ steps;
}
