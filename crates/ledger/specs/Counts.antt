-- What a ledger counts.
use Rattle.std.specs.Prelude.{◌≡◌, ◌+◌, ◌≤◌, ℕ, List, length, count_by, position, slice_index, sum}
use Rattle.ledger.specs.declared.code.TheConstants.{LONG_CYCLE}
use Rattle.ledger.specs.declared.ledger.Ledger.{Ledger}
use Rattle.ledger.specs.Kinds.{is_ordered, is_unjudged, is_overlook, is_cycle_of, is_violation}

-- for each length how many of the codes are those of a cycle of it
abbrev pub AreCounts : List ℕ → List ℕ → Type 0
AreCounts codes counts = (n : ℕ) → n ≤ LONG_CYCLE → slice_index counts n ≡ count_by (is_cycle_of n) codes

-- the ledger of these codes, in order
pub record IsLedger (codes : List ℕ) (l : Ledger) : Type 0 where
  pub total : l.total ≡ length codes
  pub ordered : l.ordered ≡ count_by is_ordered codes
  pub unjudged : l.unjudged ≡ count_by is_unjudged codes
  pub overlook : l.overlook ≡ count_by is_overlook codes
  pub lengths : length l.cycles.items ≡ LONG_CYCLE + 1
  pub cycles : AreCounts codes l.cycles.items
  pub first : l.first ≡ position is_violation codes
  pub first_unjudged : l.first_unjudged ≡ position is_unjudged codes

-- the counts add up to the number of codes
abbrev pub AddsUp : Ledger → Type 0
AddsUp l = l.ordered + l.unjudged + l.overlook + sum l.cycles.items ≡ l.total

-- two ledgers say the same
pub record IsSameLedger (l m : Ledger) : Type 0 where
  pub total : l.total ≡ m.total
  pub ordered : l.ordered ≡ m.ordered
  pub unjudged : l.unjudged ≡ m.unjudged
  pub overlook : l.overlook ≡ m.overlook
  pub cycles : l.cycles.items ≡ m.cycles.items
  pub first : l.first ≡ m.first
  pub first_unjudged : l.first_unjudged ≡ m.first_unjudged
