use Rattle.std.proofs.Common.{ℕ, arith, refl, w64}
use Rattle.std.specs.Prelude.{bit_and}
use Rattle.std.specs.Int.{bit_not}
use Rattle.bitrow.proofs.Bits.{and_not_all}
use Rattle.bitrow.proofs.Combining.{combined_none, combined_more}
use Rattle.bitrow.proofs.combine.and_not_words.Goals as goal

pub loop-k-init : goal.loop-k-init
loop-k-init c = combined_none (λ (a b : ℕ). bit_and a (bit_not w64 b)) c.args.words.now c.args.other.now

pub loop-k-preserved : goal.loop-k-preserved
loop-k-preserved c = combined_more (λ (a b : ℕ). bit_and a (bit_not w64 b)) c.args.words.now c.args.other.now
    c.loop-k.words c.loop-k.k _ c.loop-k-test.true refl c.loop-k.invariant

pub returns : goal.returns
returns c = and_not_all c.args.words.now c.loop-k.words c.args.other.now c.loop-k.k c.loop-k.invariant.size c.requires
    (omega (arith, c.loop-k-test.false)) (λ m. omega (arith, c.type_inv.other m)) c.loop-k.invariant.done
