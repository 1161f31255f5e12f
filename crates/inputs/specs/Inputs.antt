-- What the inputs of a command give, and whether they were read to their ends.
use Rattle.std.specs.Prelude.{◌≡◌, ◌||◌, ◌++◌, ◌∷◌, [], ℕ, Bool, true, false, List, Option, None, IfSome, ⊤, Result, Ok}
use Rattle.std.specs.Prelude.{Err}
use Rattle.std.specs.Prelude.{string_bytes}
use Rattle.devices.specs.declared.host.Tally.{Tally}
use Rattle.devices.specs.Host.{Notes, HostLog, IsIdle}
use Rattle.inputs.specs.declared.command_error.CommandError.{CommandError}
use Rattle.inputs.specs.declared.command_error.CommandError.TheVariants.{CannotOpen, ReadFailed, WriteFailed}
use Rattle.inputs.specs.declared.command_error.CommandError.TheVariants.{OutOfMemory}
use Rattle.inputs.specs.declared.command_stop.CommandStop.{CommandStop}
use Rattle.inputs.specs.declared.command_stop.CommandStop.TheVariants.{Refused, Failed}

-- the bytes that the input of each name gives, where they are known
abbrev pub Inputs : Type 0
Inputs = List ℕ → Option (List ℕ)

-- the bytes are those of the input of this name, where these are known
abbrev pub AreBytesOf : Inputs → List ℕ → List ℕ → Type 0
AreBytesOf inputs name bytes = IfSome (inputs name) (λ known. bytes ≡ known)

-- this holds of the bytes of the input of this name
abbrev pub OfBytes : Inputs → List ℕ → (List ℕ → Type 0) → Type 0
OfBytes inputs name Holds = (bytes : List ℕ) × AreBytesOf inputs name bytes × Holds bytes

-- why the input of this name isn't read: it can't be opened, a read failed, or there is no memory
abbrev pub IsInputError : Inputs → List ℕ → CommandError → Type 0
IsInputError inputs name (CannotOpen missing) = (string_bytes missing ≡ name) × (inputs name ≡ None)
IsInputError inputs name ReadFailed = ⊤
IsInputError inputs name OutOfMemory = ⊤
IsInputError inputs name other = ⊥

-- where no input was lent before, each was read to its end, without a failed read, and taken back
abbrev pub AreTakenBack : Tally → Tally → Type 0
AreTakenBack before after = IsIdle before → after ≡ before

-- the inputs of these names were asked for, in this order, each once; each was read to its end, without a failed read,
-- and taken back
abbrev pub AreRead : List (List ℕ) → HostLog → HostLog → Type 0
AreRead names a b = Notes a.asked b.asked names × AreTakenBack a.tally b.tally

-- a read failed
abbrev pub is_read_failure : CommandError → Bool
is_read_failure ReadFailed = true
is_read_failure other = false

-- a write failed
abbrev pub is_write_failure : CommandError → Bool
is_write_failure WriteFailed = true
is_write_failure other = false

-- where no input was lent before, each was taken back, and a read failed exactly where this is why a command stops
abbrev pub AreGivenUp : CommandError → Tally → Tally → Type 0
AreGivenUp error before after = IsIdle before → IsIdle after
    × (after.has_failed ≡ (is_read_failure error || before.has_failed))

-- each input that was opened was taken back, and a read failed exactly where this is why a command stops; where a text
-- is refused, each was read to its end
abbrev pub IsStoppedBy : CommandStop → Tally → Tally → Type 0
IsStoppedBy (Refused refusal) before after = AreTakenBack before after
IsStoppedBy (Failed error) before after = AreGivenUp error before after

-- some of the names, from the first on, were asked for, in this order, each once
pub record AreStopped (names : List (List ℕ)) (stop : CommandStop) (a b : HostLog) : Type 0 where
  pub front : List (List ℕ)
  pub rest : List (List ℕ)
  pub parts : names ≡ front ++ rest
  pub asked : Notes a.asked b.asked front
  pub stopped : IsStoppedBy stop a.tally b.tally

-- the inputs of these names were read, or not all were
abbrev pub ReadsNamed : {X : Type 0} → List (List ℕ) → HostLog → HostLog → Result X CommandStop → Type 0
ReadsNamed names a b (Ok x) = AreRead names a b
ReadsNamed names a b (Err stop) = AreStopped names stop a b

-- the input of this name was read, or it was not
abbrev pub ReadsInput : {X : Type 0} → List ℕ → HostLog → HostLog → Result X CommandError → Type 0
ReadsInput name a b (Ok x) = AreRead (name ∷ []) a b
ReadsInput name a b (Err error) = AreStopped (name ∷ []) (Failed error) a b
