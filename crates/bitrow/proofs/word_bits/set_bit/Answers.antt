use Rattle.bitrow.proofs.Bits.{set_is}
use Rattle.bitrow.proofs.word_bits.set_bit.Goals as goal

pub returns : goal.returns
returns c = set_is c.args.words.now c.args.i c.requires
