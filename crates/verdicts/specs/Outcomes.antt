-- Exit statuses.
use Rattle.std.specs.Prelude.{ℕ}
use Rattle.verdicts.specs.declared.outcome.Outcome.{Outcome}
use Rattle.verdicts.specs.declared.outcome.Outcome.TheVariants.{Ordered, Violation, Refused, Unfinished, Done, Error}

-- the exit status of a command with this outcome
abbrev pub status_of : Outcome → ℕ
status_of Ordered = 0
status_of Done = 0
status_of Error = 1
status_of Violation = 2
status_of Refused = 3
status_of Unfinished = 4
