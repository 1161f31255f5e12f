-- What reading from a source and writing to a sink do.
use Rattle.std.specs.Prelude.{◌≡◌, ◌<◌, ◌↔◌, ◌||◌, ◌++◌, ℕ, List, Option, Result, Ok, Err, Bool, true, false}
use Rattle.std.specs.Prelude.{⊤, length}
use Rattle.std.specs.Io.KnownBytes.{Consumes}
use Rattle.devices.specs.declared.whole.ReadError.{ReadError}
use Rattle.devices.specs.declared.whole.ReadError.TheVariants.{ReadFailed, OutOfMemory}

-- whether a call failed, after one more
abbrev pub Fails : {X E : Type 0} → Bool → Bool → Result X E → Type 0
Fails before after (Ok x) = after ≡ before
Fails before after (Err failed) = after ≡ true

-- whether a call failed, after some whose error says whether one did
abbrev pub FailsBy : {X E : Type 0} → (E → Bool) → Bool → Bool → Result X E → Type 0
FailsBy is_failure before after (Ok x) = after ≡ before
FailsBy is_failure before after (Err error) = after ≡ (is_failure error || before)

-- no byte is given exactly where the end is met, if there is room for one
abbrev pub MeetsEnd : {E : Type 0} → Bool → Result ℕ E → List ℕ → Type 0
MeetsEnd ended (Ok n) buf = 0 < length buf → (n ≡ 0) ↔ (ended ≡ true)
MeetsEnd ended (Err failed) buf = ⊤

-- one byte is taken at least, if there is one
abbrev pub TakesSome : {E : Type 0} → Result ℕ E → List ℕ → Type 0
TakesSome (Ok n) text = 0 < length text → 0 < n
TakesSome (Err failed) text = ⊤

-- what was gathered grows by the bytes that were given
abbrev pub Gathers : Option (List ℕ) → Option (List ℕ) → List ℕ → List ℕ → Type 0
Gathers left_before left_after before after =
    (more : List ℕ) × Consumes left_before left_after more × (after ≡ before ++ more)

-- not all was read, since a read failed
abbrev pub is_read_failure : ReadError → Bool
is_read_failure ReadFailed = true
is_read_failure OutOfMemory = false
