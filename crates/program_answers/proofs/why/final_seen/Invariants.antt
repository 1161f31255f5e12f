use Rattle.std.proofs.Common.{◌≡◌, drop}
use Rattle.program_answers.specs.Why.{final_seen}
use Rattle.program_answers.proofs.why.final_seen.Given as goal

abbrev pub invariant-loop-one : goal.invariant-loop-one
invariant-loop-one l = final_seen l.seen l.number ≡ final_seen (drop l.one-index l.seen) l.number
