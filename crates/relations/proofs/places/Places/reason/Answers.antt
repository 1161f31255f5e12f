use Rattle.std.proofs.Common.{arith}
use Rattle.relations.specs.ForcedLaws.{forced_within}
use Rattle.relations.proofs.places.Places.reason.Goals as goal

pub returns-then-len-first : goal.returns-then-len-first
returns-then-len-first c forced =
    let x = c.args.self.now in
    let within = forced_within x c.sound.ensures.well_formed forced.0 c.args.first c.args.second forced.1 in
    omega (arith, within.0, c.if-len-first.true, c.len-len.ensures)

pub returns-then-len-second : goal.returns-then-len-second
returns-then-len-second c forced =
    let x = c.args.self.now in
    let within = forced_within x c.sound.ensures.well_formed forced.0 c.args.first c.args.second forced.1 in
    omega (arith, within.1, c.if-len-second.true, c.len-len.ensures)
