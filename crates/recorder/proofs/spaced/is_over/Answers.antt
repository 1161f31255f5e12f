use Rattle.recorder.proofs.SpacedTokens.{nothing_follows}
use Rattle.recorder.proofs.spaced.is_over.Goals as goal

pub returns : goal.returns
returns c over =
    nothing_follows c.args.rest.now c.skip_space.new.rest c.skip_space.ensures (c.is_empty.ensures.0 over)
