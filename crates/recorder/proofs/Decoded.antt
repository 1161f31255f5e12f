-- What was written of an execution tells it again.
use Rattle.std.proofs.Common.{◌≡◌, ◌==◌, not, inl, inr, ℕ, Bool, true, false, Option, Some, None, List, [], ◌∷◌}
use Rattle.std.proofs.Common.{length, replicate, refl, sym, ap, ◌∙◌, if◌then◌else◌}
use Rattle.std.proofs.lemmas.Bool.{and_parts, eqb-true}
use Rattle.std.specs.List.{list_all}
use Rattle.recording.specs.Execution.{Execution}
use Rattle.recorder.specs.ParsedModel.{ParsedModel, initial_values, IsVersioned}
use Rattle.recorder.specs.Written.{version_of}
use Rattle.recorder.specs.Text.{has_failed_cas, is_of_version_1}

-- what version 1 tells
pub of_version_1 : (x : Execution) → is_of_version_1 x ≡ true
    → (has_failed_cas x.cores ≡ false) × (list_all (λ (v : ℕ). v == 0) x.initial ≡ true)
unfolding is_of_version_1
of_version_1 x is =
    let parts = and_parts (not (has_failed_cas x.cores)) (list_all (λ (v : ℕ). v == 0) x.initial) is in
    (go (has_failed_cas x.cores) parts.0, parts.1)
  where
    go : (b : Bool) → not b ≡ true → b ≡ false
    go true wrong = absurd cc
    go false fits = refl

-- a list of zeros
zeros : (values : List ℕ) → list_all (λ (v : ℕ). v == 0) values ≡ true → replicate (length values) 0 ≡ values
zeros [] all = refl
zeros (v ∷ vs) all =
    let parts = and_parts (v == 0) (list_all (λ (w : ℕ). w == 0) vs) all in
    rw (eqb-true v 0 parts.0, zeros vs parts.1) refl

-- the contents that are written have what their version has, and tell the initial values
pub tells : (x : Execution) → length x.initial ≡ length x.write_lists → (b : Bool) → is_of_version_1 x ≡ b
    → let values : Option (List ℕ) = if b then None else Some x.initial in
    let c : ParsedModel =
    record { version = version_of values; cores = x.cores; write_lists = x.write_lists; values = values } in
    IsVersioned c × (initial_values values x.write_lists ≡ x.initial)
tells x size true is =
    let plain = of_version_1 x is in (
      inl (refl, refl, plain.0),
      ap (λ (n : ℕ). replicate n 0) (sym size) ∙ zeros x.initial plain.1,
    )
tells x size false is = (inr (refl, refl), refl)
