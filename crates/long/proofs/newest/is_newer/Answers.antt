use Rattle.std.proofs.Common.{◌<◌, length, arith}
use Rattle.std.proofs.lemmas.Bool.{ltb-true, lt-ltb}
use Rattle.recording.specs.Execution.{write_list}
use Rattle.recording.specs.Order.{place}
use Rattle.recording.specs.OrderLaws.{place_in}
use Rattle.long.proofs.newest.is_newer.Goals as goal

pub returns-in-Some : goal.returns-in-Some
returns-in-Some c = rw c.in-Some.is (λ a from writes.
    let x = c.args.recording.now in
    let w = c.args.write in
    let one = (c.write_place.ensures a from).place in
    let two = (c.write_place-in-Some.ensures a writes).place in
    let within : place (write_list x a) w < length (write_list x a) =
    place_in (write_list x a) w (omega (arith, (c.sound.ensures.well_formed.write_lists a).once w writes)) in (
      λ t. (omega (arith, ltb-true c.write_place.result.place c.write_place-in-Some.result.place t, one, two), within),
      λ before. lt-ltb c.write_place.result.place c.write_place-in-Some.result.place (omega (arith, before.0, one, two)),
    ))
