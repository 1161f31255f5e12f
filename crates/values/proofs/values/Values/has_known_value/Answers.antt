use Rattle.std.proofs.Common.{◌≡◌, ◌∙◌, Some, None, sym, ap}
use Rattle.recording.specs.Event.{read_address, value_read, value_written}
use Rattle.recording.specs.Execution.{Reads}
use Rattle.values.specs.Values.{known_source}
use Rattle.values.specs.Refused.{events_alone}
use Rattle.values.proofs.Known.{value_of_write, value_of_none}
use Rattle.values.proofs.values.Values.has_known_value.Goals as goal

pub returns-in-Some-source-2 : goal.returns-in-Some-source-2
returns-in-Some-source-2 c =
    let one = c.event-event.ensures in
    let reads : Reads (events_alone c.args.self.now) c.args.number c.in-Some.address =
    sym (ap read_address one) ∙ (sym c.read_address.ensures ∙ c.in-Some.is) in
    let from : known_source c.args.self.now c.args.number ≡ Some (Some c.in-Some-source-2.write) =
    sym c.source.ensures ∙ (c.in-Some-source.is ∙ ap Some c.in-Some-source-2.is) in
    value_of_write c.args.self.now c.args.number c.in-Some.address c.in-Some-source-2.write
    c.value_written.result c.value_read.result reads from
    (c.value_written.ensures ∙ ap value_written c.event.ensures)
    (c.value_read.ensures ∙ ap value_read one)

pub returns-in-None : goal.returns-in-None
returns-in-None c =
    let one = c.event-event.ensures in
    let reads : Reads (events_alone c.args.self.now) c.args.number c.in-Some.address =
    sym (ap read_address one) ∙ (sym c.read_address.ensures ∙ c.in-Some.is) in
    let from : known_source c.args.self.now c.args.number ≡ Some None =
    sym c.source.ensures ∙ (c.in-Some-source.is ∙ ap Some c.in-None.is) in
    value_of_none c.args.self.now c.args.number c.in-Some.address c.initial_value.result
    c.value_read-in-None.result reads from c.initial_value.ensures (c.value_read-in-None.ensures ∙ ap value_read one)
