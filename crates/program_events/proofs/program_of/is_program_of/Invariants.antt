use Rattle.std.proofs.Common.{◌<◌, ℕ, [], get_or}
use Rattle.program_events.specs.ProgramOf.{AreOpsOf}
use Rattle.program_events.proofs.program_of.is_program_of.Given as goal

abbrev pub invariant-loop-core : goal.invariant-loop-core
invariant-loop-core l = (k : ℕ) → k < l.core
    → AreOpsOf (get_or l.program.cores k []) (get_or l.recording.cores k [])
