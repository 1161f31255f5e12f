use Rattle.bitrow.proofs.Bits.{clear_is}
use Rattle.bitrow.proofs.word_bits.clear_bit.Goals as goal

pub returns : goal.returns
returns c = clear_is c.args.words.now c.args.i c.requires
