use Rattle.std.proofs.Common.{ℕ, arith, refl}
use Rattle.std.specs.Prelude.{bit_or}
use Rattle.bitrow.proofs.Bits.{or_all}
use Rattle.bitrow.proofs.Combining.{combined_none, combined_more}
use Rattle.bitrow.proofs.combine.or_words.Goals as goal

pub loop-k-init : goal.loop-k-init
loop-k-init c = combined_none (λ (a b : ℕ). bit_or a b) c.args.words.now c.args.other.now

pub loop-k-preserved : goal.loop-k-preserved
loop-k-preserved c = combined_more (λ (a b : ℕ). bit_or a b) c.args.words.now c.args.other.now c.loop-k.words
    c.loop-k.k _
    c.loop-k-test.true refl c.loop-k.invariant

pub returns : goal.returns
returns c = or_all c.args.words.now c.loop-k.words c.args.other.now c.loop-k.k c.loop-k.invariant.size c.requires
    (omega (arith, c.loop-k-test.false)) c.loop-k.invariant.done
