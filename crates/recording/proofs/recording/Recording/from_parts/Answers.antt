use Rattle.std.proofs.Common.{sym, subst}
use Rattle.recording.specs.Execution.{Execution}
use Rattle.recording.specs.Recording.{IsRecordingWithin}
use Rattle.recording.proofs.Refused.{refused}
use Rattle.recording.proofs.recording.Recording.from_parts.Goals as goal

pub returns-in-Err-clause-exact : goal.returns-in-Err-clause-exact
returns-in-Err-clause-exact c = (
  λ wrong. absurd cc,
  λ is. absurd (refused c.new-parts.result c.in-Err.refusal (rw c.in-Err.is at c.in_ok-slots.ensures.err)
      (subst (λ (x : Execution). IsRecordingWithin c.args.size x) (sym c.new-parts.ensures) is)),
)
