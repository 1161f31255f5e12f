use Rattle.std.proofs.Common.{◌≡◌, ◌<◌, ℕ, length, get_or}
use Rattle.machine.specs.declared.step.Step.{Step}
use Rattle.trials.specs.Schedule.{step_at}
use Rattle.trials.proofs.schedule.fill.Given as goal

-- the steps below i are there
abbrev pub invariant-loop-i : goal.invariant-loop-i
invariant-loop-i l =
    (length l.table ≡ length l.initial.table)
    × ((j : ℕ) (d : Step) → j < l.i → get_or l.table j d ≡ step_at l.cores l.addresses j)
