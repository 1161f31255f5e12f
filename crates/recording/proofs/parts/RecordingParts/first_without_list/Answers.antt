use Rattle.std.proofs.Common.{◌<◌, inr, ℕ, length, arith}
use Rattle.recording.specs.Refusals.{HasWriteList}
use Rattle.recording.proofs.Refused.{write_lists_all}
use Rattle.recording.proofs.parts.RecordingParts.first_without_list.Goals as goal

pub returns-clause-least : goal.returns-clause-least
returns-clause-least c =
    let x = c.args.self.now in
    let lists = c.first_lists_right-right.ensures in
    let below : (a : ℕ) → a < length x.write_lists → a < c.first_lists_right-right.result =
    λ a at. omega (arith, at, c.writes.ensures.count, c.if-right-writes.false) in
    let each : (a : ℕ) → HasWriteList x a =
    write_lists_all x c.requires.within (λ a at. lists.right a (below a at)) in (
      each,
      λ e a writes. lists.placed.placed e a writes (below a (c.requires.within.addresses e a (inr writes)))
          (omega (arith, (each a).once e writes)),
    )
