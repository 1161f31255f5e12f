use Rattle.std.proofs.Common.{sym, ◌∙◌}
use Rattle.serde_json.specs.View.{view}
use Rattle.recorder.proofs.ClippedContents.{shape_given}
use Rattle.recorder.proofs.reading.shape_in.Goals as goal

pub returns : goal.returns
returns c = c.into_contents.ensures ∙ sym (shape_given (view c.args.value.now) c.in-Some.keys _ _ _ _
    (sym c.keys_of.ensures ∙ c.in-Some.is) (sym c.natural_at.ensures)
    (sym c.in_ok-lists_at.ensures) (sym c.in_ok-lists_at-2.ensures) (sym c.in_ok-list_at.ensures))
