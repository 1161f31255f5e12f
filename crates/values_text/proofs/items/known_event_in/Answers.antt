use Rattle.std.proofs.Common.{rules, ◌∙◌, sym}
use Rattle.serde_json.specs.View.{view}
use Rattle.values_text.proofs.KnownEvents.{known_given}
use Rattle.values_text.proofs.items.known_event_in.Goals as goal

pub returns : goal.returns
returns c =
    c.event.ensures ∙ sym (known_given c.in_ok-kind.kind.now c.in_ok-keys.keys _ _ _ _ (view c.args.value.now)
    (search rules) (search rules) (sym c.number_at.ensures) (sym c.value_at.ensures)
    (sym c.source_at.ensures) (sym c.value_at-2.ensures))
