use Rattle.std.proofs.Common.{ℕ, List, suc, length}
use Rattle.recorder.specs.ByTokens.{value_tokens, fresh_tokens}
use Rattle.recorder.proofs.ByTokens.{Came}
use Rattle.recorder.proofs.plain.lists.take_list_in.Given as goal

-- for the items so far stand those that were found
abbrev pub invariant-items : goal.invariant-items
invariant-items g l = (depth : ℕ) → (xs : List _)
    × Came g.K.Kind.held (suc depth) (fresh_tokens l.initial.rest) xs (value_tokens l.rest)
    × g.K.Kind.holds l.size l.found.items xs

abbrev pub decreases-items : goal.decreases-items
decreases-items g l = length (value_tokens l.rest)
