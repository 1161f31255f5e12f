use Rattle.std.proofs.Common.{◌++◌, ◌∙◌, ap}
use Rattle.std.proofs.lemmas.Fmt.{contents_after_writes}
use Rattle.texts.specs.declared.writing.Text.{Text}
use Rattle.texts.proofs.Formats.{on_ok_some}
use Rattle.texts.proofs.writing.write_value.Goals as goal

pub returns : goal.returns
returns g c = on_ok_some c.write-result.result (g.D.Display.output c.args.value) _ _
    (λ bs k ok. ap (λ (t : Text). t.bytes.items) c.into_inner-bytes.ensures
    ∙ contents_after_writes _ (λ (t : Text). t.bytes.items) (λ w l v t. t) _ bs _ (k c.new-f.ensures.plain ok).wrote
    ∙ ap (λ (t : Text). t.bytes.items ++ bs) c.new-f.ensures.writer) c.write-result.ensures.writes
