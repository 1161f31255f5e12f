use Rattle.std.proofs.Common.{arith}
use Rattle.relations.specs.Forced.{Forced}
use Rattle.relations.specs.ForcedLaws.{forced_within}
use Rattle.long.proofs.linking.link_chains.Goals as goal

pub of-requires-clause-firsts : goal.of-requires-clause-firsts
of-requires-clause-firsts c = λ e f some.
    let x = c.args.recording.now in
    let forced : Forced x e f = c.in_ok-linked.ensures.linked e f some in
    omega (arith, c.len.ensures, (forced_within x c.sound.ensures.well_formed forced.0 e f forced.1).0)

pub of-requires-clause-seconds : goal.of-requires-clause-seconds
of-requires-clause-seconds c = λ e f some.
    let x = c.args.recording.now in
    let forced : Forced x e f = c.in_ok-linked.ensures.linked e f some in
    omega (arith, c.len.ensures, (forced_within x c.sound.ensures.well_formed forced.0 e f forced.1).1)
