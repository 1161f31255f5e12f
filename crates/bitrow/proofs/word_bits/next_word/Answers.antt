use Rattle.std.proofs.Common.{arith}
use Rattle.bitrow.proofs.Bits.{none_at_all, first_is}
use Rattle.bitrow.proofs.word_bits.next_word.Goals as goal

pub returns-then-words-k-ne0 : goal.returns-then-words-k-ne0
returns-then-words-k-ne0 c =
    first_is c.args.words.now c.args.from c.loop-k.k (omega arith) (omega arith)
    (omega (arith, c.type_inv.words c.loop-k.k)) c.loop-k.invariant

pub returns : goal.returns
returns c = none_at_all c.args.words.now c.args.from c.loop-k.k (omega arith) c.loop-k.invariant
