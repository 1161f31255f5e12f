use Rattle.explanation.specs.Cycle.{reason_line}
use Rattle.texts.specs.TextLaws.{two_last}
use Rattle.explanation.proofs.named.Named.put_reason_line.Goals as goal

pub returns-in-Po : goal.returns-in-Po
unfolding reason_line
returns-in-Po c = rw c.in-Po.is (two_last _ _ _ _ _ _ c.in_ok-put_indent.ensures c.write.ensures)

pub returns-in-Rf : goal.returns-in-Rf
unfolding reason_line
returns-in-Rf c = rw c.in-Rf.is (two_last _ _ _ _ _ _ c.in_ok-put_indent.ensures c.write-in-Rf.ensures)
