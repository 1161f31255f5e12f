use Rattle.std.proofs.Common.{◌≡◌, drop}
use Rattle.program_answers.specs.Why.{value_seen}
use Rattle.program_answers.proofs.why.value_seen.Given as goal

abbrev pub invariant-loop-one : goal.invariant-loop-one
invariant-loop-one l = value_seen l.seen l.number ≡ value_seen (drop l.one-index l.seen) l.number
