-- What is answered of a clipped execution is the answer of the execution.
use Rattle.std.proofs.Common.{◌≡◌, ◌↔◌, inr, ℕ, Some, option_map, List, refl, sym, ap, subst, ◌∙◌}
use Rattle.std.proofs.Common.{Result, Ok, Err, IsOk, IfOk, IfErr}
use Rattle.serde_json.specs.Data.{Data}
use Rattle.recording.specs.declared.fault.RecError.{RecError}
use Rattle.recording.specs.declared.fault.RecError.TheVariants.{NotJson, Shape, Version, Limits, Source, Value}
use Rattle.recording.specs.declared.fault.RecError.TheVariants.{WriteList, OutOfMemory}
use Rattle.recording.specs.declared.size.RecordingSize.{RecordingSize}
use Rattle.recording.specs.Execution.{Execution}
use Rattle.recording.specs.Recording.{IsRecordingWithin}
use Rattle.recording.specs.Refusals.{IsRefusal}
use Rattle.recorder.specs.ParsedModel.{ParsedModel, execution_of, IsVersioned}
use Rattle.recorder.specs.Reading.{shape_in, Decodes, IsReadingOf}
use Rattle.recorder.specs.Text.{IsReadAs}
use Rattle.recorder.specs.Clipped.{clipped, clipped_shape}
use Rattle.recorder.proofs.ClippedContents.{versioned_from, versioned_to, execution_clipped}
use Rattle.recorder.proofs.ClippedRecording.{recording_from}
use Rattle.recorder.proofs.Somes.{some_mapped}
use Rattle.recorder.proofs.ClippedRefusals.{refusal_from}

-- the first refusal is an answer
refused : (size : RecordingSize) (bytes : List ℕ) (d : Data) (x : Execution) (e : RecError) → IsReadAs bytes d
    → Decodes d x → IsRefusal size x e → IsReadingOf size bytes (Err e)
refused size bytes d x Limits reads tells is = (d, reads, (x, tells, is))
refused size bytes d x (Source e) reads tells is = (d, reads, (x, tells, is))
refused size bytes d x (Value e) reads tells is = (d, reads, (x, tells, is))
refused size bytes d x (WriteList a) reads tells is = (d, reads, (x, tells, is))
refused size bytes d x NotJson reads tells is = absurd is
refused size bytes d x Shape reads tells is = absurd is
refused size bytes d x Version reads tells is = absurd is
refused size bytes d x OutOfMemory reads tells is = absurd is

-- and so is a recording
read : (size : RecordingSize) (bytes : List ℕ) (d : Data) (x z : Execution) → IsReadAs bytes d → Decodes d x
    → z ≡ clipped x → IsRecordingWithin size (clipped x) → IsReadingOf size bytes (Ok z)
read size bytes d x z reads tells held is = (d, reads, rw (held ∙ recording_from size x is) tells, rw held is)

-- an execution whose clipped form the contents that are held tell, where their version is right
pub told_from : (d : Data) (q : ParsedModel) → Some q ≡ option_map clipped_shape (shape_in d) → IsVersioned q
    → (c : ParsedModel) × (clipped_shape c ≡ q) × Decodes d (execution_of c)
told_from d q is versioned =
    let from = some_mapped clipped_shape (shape_in d) q (sym is) in
    let right = versioned_from from.0 (subst IsVersioned (sym from.2) versioned) in
    (from.0, from.2, record { contents = from.0; shape = from.1; versioned = right; same = refl })

-- what the contents that are held give, where their version is right, is an answer
pub answers_from : (size : RecordingSize) (bytes : List ℕ) (d : Data) (q : ParsedModel) (x : Execution)
    (r : Result Execution RecError) → IsReadAs bytes d → Some q ≡ option_map clipped_shape (shape_in d) → IsVersioned q → x ≡ execution_of q
    → IsOk r ↔ IsRecordingWithin size x → IfOk r (λ z. z ≡ x) → IfErr r (λ e. IsRefusal size x e)
    → IsReadingOf size bytes r
answers_from size bytes d q x r reads is versioned held exact ok err =
    let from = told_from d q is versioned in
    let parts : clipped (execution_of from.0) ≡ x = sym (execution_clipped from.0)
    ∙ (ap execution_of from.1 ∙ sym held) in
    go (execution_of from.0) from.2 parts r exact ok err
  where
    go : (y : Execution) → Decodes d y → clipped y ≡ x → (s : Result Execution RecError)
        → IsOk s ↔ IsRecordingWithin size x → IfOk s (λ z. z ≡ x) → IfErr s (λ e. IsRefusal size x e)
        → IsReadingOf size bytes s
    go y tells parts (Ok z) exact ok err =
        read size bytes d y z reads tells (ok ∙ sym parts) (rw parts (exact.0 refl))
    go y tells parts (Err e) exact ok err =
        refused size bytes d y e reads tells (refusal_from size y e (rw parts err))

-- where the version of what is held is wrong, that is the answer
pub version_from : (size : RecordingSize) (bytes : List ℕ) (d : Data) (q : ParsedModel) → IsReadAs bytes d
    → Some q ≡ option_map clipped_shape (shape_in d) → (IsVersioned q → ⊥)
    → IsReadingOf size bytes (Err Version)
version_from size bytes d q reads is wrong =
    let from = some_mapped clipped_shape (shape_in d) q (sym is) in
    (d, reads, inr (from.0, from.1, λ right. wrong (subst IsVersioned from.2 (versioned_to from.0 right))))
