use Rattle.std.proofs.Common.{refl}
use Rattle.ledger.proofs.LineTexts.{over_is}
use Rattle.ledger.proofs.words.cycle_length.Goals as goal

pub returns-then-take : goal.returns-then-take
returns-then-take c n more within is =
    over_is n c.args.rest.now more c.take.new.self within is (c.if-take.ensures.found refl)
