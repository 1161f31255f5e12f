-- One step more of a traced machine, or why it is not taken.
use Rattle.std.specs.Prelude.{[], ◌∷◌, ◌++◌, length, nat_lt, if◌then◌else◌, Result, Ok, Err}
use Rattle.machine.specs.declared.step.Step.{Step}
use Rattle.machine.specs.declared.blocked.Blocked.{Blocked as Reason}
use Rattle.machine.specs.State.{State}
use Rattle.machine.specs.Step.{step_result}
use Rattle.live.specs.declared.error.LiveError.{LiveError}
use Rattle.live.specs.declared.error.LiveError.TheVariants.{Blocked, TraceFull}
use Rattle.live.specs.Trace.{Trace}

-- the step, if the machine took it, is the last of the trace
abbrev pub step_answer : Trace → Step → Result State Reason → Result Trace LiveError
step_answer t step (Ok s) =
    Ok (record t { machine = record t.machine { state = s }; steps = t.steps ++ step ∷ [] })
step_answer t step (Err b) = Err (Blocked b)

-- a full trace comes before a blocked step
abbrev pub advance_answer : Trace → Step → Result Trace LiveError
advance_answer t step =
    if nat_lt (length t.steps) t.limit
    then step_answer t step
    (step_result t.machine.program.cores t.machine.capacity t.machine.fault t.machine.state step)
    else Err TraceFull
