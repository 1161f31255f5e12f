use Rattle.std.proofs.Common.{ℕ, length}
use Rattle.recorder.specs.ReadMembers.{AreFields}
use Rattle.recorder.specs.ByTokens.{value_tokens, fresh_tokens}
use Rattle.recorder.proofs.ByTokens.{Reached}
use Rattle.recorder.proofs.plain.events.take_fields.Given as goal

-- the members so far are those that were read
abbrev pub invariant-members : goal.invariant-members
invariant-members l = (depth : ℕ) → Reached AreFields depth (fresh_tokens l.initial.rest) (value_tokens l.rest) l.fields

abbrev pub decreases-members : goal.decreases-members
decreases-members l = length (value_tokens l.rest)
