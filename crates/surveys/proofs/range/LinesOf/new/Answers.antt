use Rattle.surveys.proofs.Masks.{masked_length, masked_lines}
use Rattle.surveys.proofs.range.LinesOf.new.Goals as goal

pub returns-clause-lines : goal.returns-clause-lines
returns-clause-lines g c = λ bytes. masked_lines bytes _ c.args.range.count

pub returns-clause-size : goal.returns-clause-size
returns-clause-size g c = λ bytes. masked_length bytes _ c.args.range.count
