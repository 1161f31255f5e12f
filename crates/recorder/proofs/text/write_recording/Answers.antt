use Rattle.std.proofs.Common.{◌≡◌, ◌++◌, ◌∷◌, [], arith, inr, refl, subst, sym, string_bytes, IsUtf8}
use Rattle.std.proofs.lemmas.Grind.{common_steps}
use Rattle.std.proofs.lemmas.Str.{IsUtf8-string_bytes}
use Rattle.serde_json.specs.View.{view}
use Rattle.recorder.specs.Text.{IsReadAs, recording_text, data_of}
use Rattle.recorder.proofs.WrittenAgain.{execution_rereads, execution_told, execution_written, read_bytes}
use Rattle.recorder.proofs.text.write_recording.Goals as goal

pub returns : goal.returns
unfolding recording_text
returns c =
    let x = c.args.recording.now in
    let bytes = c.into_bytes.result.items in
    let fits = c.in_ok-value.ensures.fits in
    let pushed : bytes ≡ string_bytes c.push.new.self = grind (arith, common_steps) in
    let whole : bytes ≡ string_bytes c.in_ok-text.text ++ 10 ∷ [] = grind (arith, common_steps) in
    let written = execution_written x bytes (string_bytes c.in_ok-text.text) (view c.in_ok-value.value) fits
    c.in_ok-value.ensures.value c.in_ok-text.ensures.text whole in
    let reads : IsReadAs bytes (data_of x) = (
      subst IsUtf8 (sym pushed) (IsUtf8-string_bytes c.push.new.self),
      read_bytes bytes (10 ∷ []) (data_of x) (execution_rereads x fits) written (inr refl),
    ) in
    record {
      text = written;
      reads_back = reads;
      again = λ size recording. (
        data_of x,
        reads,
        execution_told x fits c.sound.ensures.within.initial,
        recording,
      );
    }
