-- The numbers that the text of a recording has.
use Rattle.std.specs.Prelude.{◌<◌, ◌^◌, ℕ, List, Option, None, Some, ⊤}
use Rattle.std.specs.List.{AllByRecursion}
use Rattle.recording.specs.declared.event.Event.{Event}
use Rattle.recording.specs.declared.event.Event.TheVariants.{L, S, R, C, F}

-- 32 bits of a value, or of the number of an event or of an address
abbrev pub IsWord : ℕ → Type 0
IsWord n = n < 2 ^ 32

-- a source is the initial value, or has 32 bits
abbrev pub IsWordSource : Option ℕ → Type 0
IsWordSource None = ⊤
IsWordSource (Some s) = IsWord s

-- each number of an event fits
abbrev pub IsFitting : Event → Type 0
IsFitting (L a r s) = IsWord a × IsWord r × IsWordSource s
IsFitting (S a w) = IsWord a × IsWord w
IsFitting (R a r s w) = IsWord a × IsWord r × IsWordSource s × IsWord w
IsFitting (C a r s) = IsWord a × IsWord r × IsWordSource s
IsFitting F = ⊤

-- each initial value fits
abbrev pub AreFittingValues : Option (List ℕ) → Type 0
AreFittingValues None = ⊤
AreFittingValues (Some values) = AllByRecursion IsWord values

-- the version that has initial values, or has none
abbrev pub version_of : Option (List ℕ) → ℕ
version_of None = 1
version_of (Some values) = 2

-- each number of contents fits
pub record AreFitting (values : Option (List ℕ)) (cores : List (List Event)) (lists : List (List ℕ)) : Type 0 where
  pub events : AllByRecursion (AllByRecursion IsFitting) cores
  pub numbers : AllByRecursion (AllByRecursion IsWord) lists
  pub words : AreFittingValues values
