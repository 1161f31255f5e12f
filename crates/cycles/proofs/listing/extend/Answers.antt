use Rattle.std.proofs.Common.{◌∙◌, ◌++◌, List, ap}
use Rattle.cycles.specs.Listing.{Chain, listed_if, with_block}
use Rattle.cycles.proofs.Ranges.{made_step}
use Rattle.cycles.proofs.listing.extend.Goals as goal

pub loop-block-preserved : goal.loop-block-preserved
loop-block-preserved c =
    made_step (λ b. listed_if (with_block c.args.chain.now b)) c.loop-block.block 17 c.loop-block.found.items
    c.add.new.chains.items _ c.loop-block-test.true c.loop-block.invariant
    (c.in_ok-add.ensures ∙ ap (λ (l : List Chain). c.loop-block.found.items ++ l) (ap listed_if c.in_ok-longer.ensures))
