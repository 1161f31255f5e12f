use Rattle.std.proofs.Common.{◌≡◌, drop}
use Rattle.program_answers.specs.Why.{first_values}
use Rattle.program_answers.proofs.why.first_values.Given as goal

abbrev pub invariant-loop-line : goal.invariant-loop-line
invariant-loop-line l = first_values l.program l.outcomes l.lines ≡ first_values l.program l.outcomes (drop l.line-index l.lines)
