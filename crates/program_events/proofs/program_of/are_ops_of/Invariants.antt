use Rattle.std.proofs.Common.{◌<◌, ℕ, get_or}
use Rattle.program.specs.declared.op.Op.TheVariants.{Fence}
use Rattle.recording.specs.declared.event.Event.TheVariants.{F}
use Rattle.program_events.specs.ProgramOf.{Makes}
use Rattle.program_events.proofs.program_of.are_ops_of.Given as goal

abbrev pub invariant-loop-i : goal.invariant-loop-i
invariant-loop-i l = (j : ℕ) → j < l.i → Makes (get_or l.ops j Fence) (get_or l.events j F)
