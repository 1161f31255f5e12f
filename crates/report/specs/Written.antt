-- What is written of an answer.
use Rattle.std.specs.Prelude.{◌≡◌, ℕ, List, Option, take}
use Rattle.std.specs.Io.KnownBytes.{Appends}
use Rattle.verdicts.specs.declared.printed.Answer.{Answer}
use Rattle.verdicts.specs.declared.outcome.Outcome.{Outcome}

-- such an answer was written, whole, and this is its outcome
abbrev pub IsPut : (Answer → Type 0) → Option (List ℕ) → Option (List ℕ) → Outcome → Type 0
IsPut Is before after outcome = (answer : Answer) × Is answer × (outcome ≡ answer.outcome)
    × Appends before after answer.text.items

-- the first bytes of such an answer were written
abbrev pub IsBegun : (Answer → Type 0) → Option (List ℕ) → Option (List ℕ) → Type 0
IsBegun Is before after = (answer : Answer) × Is answer × (n : ℕ) × Appends before after (take n answer.text.items)
