use Rattle.cycles.specs.Blocks.{blocks, row_at}
use Rattle.cycles.proofs.blocks.row_at.Goals as goal

pub returns : goal.returns
unfolding row_at blocks
returns c = c.row_in.ensures
