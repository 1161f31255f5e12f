use Rattle.std.proofs.Common.{ℕ, List, suc, map, length}
use Rattle.recorder.specs.Reading.{list_in}
use Rattle.recorder.specs.ByTokens.{value_tokens, fresh_tokens}
use Rattle.recorder.proofs.ByTokens.{Came}
use Rattle.recorder.proofs.plain.lists.take_lists.Given as goal

-- for the lists so far stand those that were found
abbrev pub invariant-items : goal.invariant-items
invariant-items g l = (depth : ℕ) → (xs : List (List _))
    × Came (list_in g.K.Kind.held) (suc (suc depth)) (fresh_tokens l.initial.rest) xs (value_tokens l.rest)
    × g.K.Kind.holds_lists l.size (map (λ v. v.items) l.found.items) xs

abbrev pub decreases-items : goal.decreases-items
decreases-items g l = length (value_tokens l.rest)
