use Rattle.std.proofs.Common.{map}
use Rattle.program_answers.specs.Cycles.{ArePicked}
use Rattle.program_answers.proofs.made_answers.cycle_lines.Given as goal

abbrev pub invariant-loop-at : goal.invariant-loop-at
invariant-loop-at l = ArePicked l.choice (map (λ v. v.items) l.cycles) l.at l.out.items
