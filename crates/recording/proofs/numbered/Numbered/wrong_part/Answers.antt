use Rattle.std.proofs.Common.{refl}
use Rattle.recording.proofs.Refused.{sizes_within, wrong_part}
use Rattle.recording.proofs.numbered.Numbered.wrong_part.Goals as goal

pub returns-then-not-has_sizes : goal.returns-then-not-has_sizes
returns-then-not-has_sizes c within =
    let has = c.if-not-has_sizes.ensures.1 (sizes_within c.args.self.now within) in absurd cc

pub returns : goal.returns
returns c = wrong_part c.args.size c.args.self.now c.wrong_event.result (c.if-not-has_sizes.ensures.0 refl)
    c.wrong_event.ensures
