use Rattle.std.proofs.Common.{◌∙◌, sym}
use Rattle.serde_json.specs.View.{view}
use Rattle.values_text.proofs.ClippedShape.{shape_given, no_shape}
use Rattle.values_text.proofs.shape.shape_in.Goals as goal

pub returns-in_default : goal.returns-in_default
returns-in_default c = no_shape (view c.args.value.now) (sym c.keys_of.ensures ∙ c.in_default.is)

pub returns : goal.returns
returns c = c.into_contents.ensures ∙ sym (shape_given (view c.args.value.now) c.in-Some.keys _ _ _ _
    (sym c.keys_of.ensures ∙ c.in-Some.is) (sym c.natural_at.ensures)
    (sym c.in_ok-cores_at.ensures) (sym c.in_ok-list_at.ensures) (sym c.in_ok-list_at-2.ensures))
