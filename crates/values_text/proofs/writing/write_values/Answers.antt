use Rattle.std.proofs.Common.{◌≡◌, ◌++◌, ◌∷◌, [], arith, inr, refl, subst, sym, string_bytes, IsUtf8}
use Rattle.std.proofs.lemmas.Grind.{common_steps}
use Rattle.std.proofs.lemmas.Str.{IsUtf8-string_bytes}
use Rattle.serde_json.specs.View.{view}
use Rattle.recorder.specs.Text.{IsReadAs}
use Rattle.recorder.proofs.WrittenAgain.{read_bytes}
use Rattle.values_text.specs.Text.{text_of_values, values_data}
use Rattle.values_text.proofs.WrittenAgain.{values_reread, values_written}
use Rattle.values_text.proofs.Told.{values_told}
use Rattle.values_text.proofs.writing.write_values.Goals as goal

pub returns : goal.returns
unfolding text_of_values
returns c =
    let v = c.args.values.now in
    let bytes = c.into_bytes.result.items in
    let fits = c.in_ok-value.ensures.fits in
    let pushed : bytes ≡ string_bytes c.push.new.self = grind (arith, common_steps) in
    let whole : bytes ≡ string_bytes c.in_ok-text.text ++ 10 ∷ [] = grind (arith, common_steps) in
    let written = values_written v bytes (string_bytes c.in_ok-text.text) (view c.in_ok-value.value) fits
    c.in_ok-value.ensures.value c.in_ok-text.ensures.text whole in
    let reads : IsReadAs bytes (values_data v) = (
      subst IsUtf8 (sym pushed) (IsUtf8-string_bytes c.push.new.self),
      read_bytes bytes (10 ∷ []) (values_data v) (values_reread v fits) written (inr refl),
    ) in
    record {
      text = written;
      reads_back = reads;
      again = λ lawful. (values_data v, reads, values_told v fits c.sound.ensures lawful, lawful);
    }
