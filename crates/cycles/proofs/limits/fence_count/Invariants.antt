use Rattle.std.proofs.Common.{◌≡◌, ◌≤◌, count_by, take}
use Rattle.cycles.specs.Words.{is_fenced}
use Rattle.cycles.proofs.limits.fence_count.Given as goal

abbrev pub invariant-loop-word : goal.invariant-loop-word
invariant-loop-word l = (l.count ≡ count_by is_fenced (take l.word-index l.words)) × (l.count ≤ l.word-index)
