-- Which counts and first places are those of some codes.
use Rattle.std.specs.Prelude.{◌≡◌, ◌≢◌, ◌⊎◌, ◌+◌, ◌<◌, ◌≤◌, ℕ, List, Option, None, Some, ⊤, length, sum}
use Rattle.ledger.specs.declared.code.TheConstants.{LONG_CYCLE}
use Rattle.ledger.specs.declared.ledger.Ledger.{Ledger}
use Rattle.ledger.specs.Counts.{AddsUp, IsLedger}

-- how many codes are those of overlooks and cycles
abbrev pub violation_count : Ledger → ℕ
violation_count l = l.overlook + sum l.cycles.items

-- the first place of this many among all: there is one where there are some, and all of them have room from it on
abbrev pub IsFirstOf : ℕ → ℕ → Option ℕ → Type 0
IsFirstOf count total None = count ≡ 0
IsFirstOf count total (Some place) = (0 < count) × (place + count ≤ total)

-- two first places differ, and before the earlier one there are no more places than orders
abbrev pub AreApart : ℕ → Option ℕ → Option ℕ → Type 0
AreApart ordered None second = ⊤
AreApart ordered (Some i) None = ⊤
AreApart ordered (Some i) (Some j) = (i ≢ j) × ((i ≤ ordered) ⊎ (j ≤ ordered))

-- the first places fit the counts
pub record FirstsFit (l : Ledger) : Type 0 where
  pub violation : IsFirstOf (violation_count l) l.total l.first
  pub unjudged : IsFirstOf l.unjudged l.total l.first_unjudged
  pub apart : AreApart l.ordered l.first l.first_unjudged

-- there are codes of which it is the ledger
pub record HasCodes (l : Ledger) : Type 0 where
  pub codes : List ℕ
  pub is : IsLedger codes l

-- counts that add up, with first places that fit them, are those of some codes
abbrev pub EveryFittingLedgerHasCodes : Type 0
EveryFittingLedgerHasCodes = (l : Ledger) → length l.cycles.items ≡ LONG_CYCLE + 1 → AddsUp l → FirstsFit l → HasCodes l

-- and the first places of every ledger fit its counts
abbrev pub EveryLedgerFits : Type 0
EveryLedgerFits = (codes : List ℕ) (l : Ledger) → IsLedger codes l → FirstsFit l
