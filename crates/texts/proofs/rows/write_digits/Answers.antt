use Rattle.std.proofs.Common.{arith}
use Rattle.texts.proofs.ShortNumbers.{digit_more}
use Rattle.texts.proofs.rows.write_digits.Goals as goal

pub loop-i-preserved : goal.loop-i-preserved
loop-i-preserved c =
    let i = c.loop-i.i in
    digit_more c.loop-i.places c.args.labels.now i (omega arith) (omega arith)
    (c.requires.digits i 0 (omega arith)) c.loop-i.invariant
