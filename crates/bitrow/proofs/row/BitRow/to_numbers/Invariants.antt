use Rattle.bitrow.specs.Rows.{AreNumbersBelow}
use Rattle.bitrow.proofs.row.BitRow.to_numbers.Given as goal

abbrev pub invariant-loop-number : goal.invariant-loop-number
invariant-loop-number l = AreNumbersBelow l.number l.self l.numbers.items
