use Rattle.std.proofs.Common.{◌≡◌, ◌≤◌, count_by, take}
use Rattle.cycles.specs.Words.{is_external}
use Rattle.cycles.proofs.limits.external_count.Given as goal

abbrev pub invariant-loop-word : goal.invariant-loop-word
invariant-loop-word l = (l.count ≡ count_by is_external (take l.word-index l.words)) × (l.count ≤ l.word-index)
