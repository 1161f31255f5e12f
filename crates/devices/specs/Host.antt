-- What becomes of the inputs that a host gives.
use Rattle.std.specs.Prelude.{◌≡◌, ◌++◌, ◌||◌, ℕ, List, Option, Some, None, Bool, not, true, false, ⊤}
use Rattle.devices.specs.declared.host.Tally.{Tally}

-- no input is lent
abbrev pub IsIdle : Tally → Type 0
IsIdle t = t.is_lent ≡ false

-- an input is lent; one that was lent before and not taken back was not read to its end
abbrev pub lent : Tally → Tally
lent t = record t { is_lent = true; is_unended = t.is_lent || t.is_unended }

-- an input was taken back: whether its end was met, and whether a read failed
abbrev pub taken_back : Tally → Bool → Bool → Tally
taken_back t ended failed = record {
  is_lent = false;
  has_failed = failed || t.has_failed;
  is_unended = not ended || t.is_unended;
}

-- the names that a host was asked for, from the first on, where they are known, and its tally
pub record HostLog : Type 0 where
  pub asked : Option (List (List ℕ))
  pub tally : Tally

-- where names are known, these come after the others
abbrev pub Notes : Option (List (List ℕ)) → Option (List (List ℕ)) → List (List ℕ) → Type 0
Notes None new names = ⊤
Notes (Some asked) None names = ⊥
Notes (Some asked) (Some new) names = new ≡ asked ++ names
