use Rattle.std.proofs.Common.{length}
use Rattle.surveys.specs.Found.{AreFindingsUpTo}
use Rattle.surveys.proofs.judged.LineJudge.judge_lines.Given as goal

abbrev pub invariant-lines : goal.invariant-lines
invariant-lines g l = AreFindingsUpTo l.self.kind l.bytes l.rest l.findings.items

abbrev pub decreases-lines : goal.decreases-lines
decreases-lines g l = length l.rest
