use Rattle.std.proofs.Common.{◌≡◌, ◌<◌, ℕ, Option, Some, None, get_or}
use Rattle.recording.specs.Execution.{source_of}
use Rattle.completion.proofs.known.keeps_sources.Given as goal

abbrev pub invariant-loop-e : goal.invariant-loop-e
invariant-loop-e l = (e : ℕ) (s : Option ℕ) → e < l.e → get_or l.known e None ≡ Some s → source_of l.recording e ≡ s
