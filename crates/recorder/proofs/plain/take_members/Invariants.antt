use Rattle.std.proofs.Common.{ℕ, suc, length}
use Rattle.recorder.specs.ReadMembers.{AreParts}
use Rattle.recorder.specs.ByTokens.{value_tokens, fresh_tokens}
use Rattle.recorder.proofs.ByTokens.{Reached}
use Rattle.recorder.proofs.plain.take_members.Given as goal

-- the members so far are those that were read
abbrev pub invariant-members : goal.invariant-members
invariant-members l = (depth : ℕ) → Reached (AreParts l.size) (suc (suc (suc depth)))
    (fresh_tokens l.initial.rest) (value_tokens l.rest) l.read_members

abbrev pub decreases-members : goal.decreases-members
decreases-members l = length (value_tokens l.rest)
