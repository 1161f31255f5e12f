use Rattle.recording.specs.Execution.{Writes}
use Rattle.recording.proofs.WriteLists.{IsWalked}
use Rattle.recording.proofs.parts.RecordingParts.lists_writes_once.Given as goal

abbrev pub invariant-loop-i : goal.invariant-loop-i
invariant-loop-i l = IsWalked (λ e. Writes l.self e l.address) l.list l.fn.slots l.slots l.i
