use Rattle.std.proofs.Common.{rules, sym, ◌∙◌}
use Rattle.serde_json.specs.View.{view}
use Rattle.recorder.specs.declared.plain.events.Fields.{Fields}
use Rattle.recorder.proofs.EventFields.{event_given}
use Rattle.recorder.proofs.items.event_in.Goals as goal

pub returns : goal.returns
returns c =
    let f : Fields = record {
      k = c.letter_in.result;
      a = c.number_at.result;
      r = c.value_at.result;
      s = c.source_at.result;
      w = c.value_at-2.result;
    } in
    c.event.ensures ∙ sym (event_given f c.in_ok-keys.keys (view c.args.value.now) (search rules)
    (sym c.letter_in.ensures) (sym c.number_at.ensures) (sym c.value_at.ensures) (sym c.source_at.ensures)
    (sym c.value_at-2.ensures))
