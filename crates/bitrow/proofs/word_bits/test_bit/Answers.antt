use Rattle.bitrow.proofs.Bits.{test_is}
use Rattle.bitrow.proofs.word_bits.test_bit.Goals as goal

pub returns : goal.returns
returns c = test_is c.args.words.now c.args.i
