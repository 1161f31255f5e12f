-- What a memory order gives one read.
use Rattle.std.specs.Prelude.{ℕ, List}
use Rattle.recording.specs.Execution.{Execution, Reads, source_of}
use Rattle.recording.specs.Tso.{IsLastVisible}

-- the source of event e, if it reads, is the last visible write, and none where none is visible
abbrev pub HasLastVisible : Execution → List ℕ → ℕ → Type 0
HasLastVisible x m e = (a : ℕ) → Reads x e a → IsLastVisible x m e a (source_of x e)
