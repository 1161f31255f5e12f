-- Two ledgers as one, and what holds of every ledger.
use Rattle.std.specs.Prelude.{◌≡◌, ◌+◌, ◌++◌, ◌<◌, ◌^◌, ℕ, List, length, slice_index, Option, None, Some}
use Rattle.ledger.specs.declared.ledger.Ledger.{Ledger}
use Rattle.ledger.specs.Counts.{IsLedger, IsSameLedger, AddsUp}

-- the first place of two lists: that of the first, else that of the second, after the n of the first
abbrev pub first_of : Option ℕ → ℕ → Option ℕ → Option ℕ
first_of (Some i) n other = Some i
first_of None n None = None
first_of None n (Some j) = Some (n + j)

-- counts added at each place
abbrev pub AreSums : List ℕ → List ℕ → List ℕ → Type 0
AreSums xs ys zs = (n : ℕ) → slice_index zs n ≡ slice_index xs n + slice_index ys n

-- the counts of both, and the first places of both lists
pub record IsJoined (l m joined : Ledger) : Type 0 where
  pub total : joined.total ≡ l.total + m.total
  pub ordered : joined.ordered ≡ l.ordered + m.ordered
  pub unjudged : joined.unjudged ≡ l.unjudged + m.unjudged
  pub overlook : joined.overlook ≡ l.overlook + m.overlook
  pub lengths : length joined.cycles.items ≡ length l.cycles.items
  pub cycles : AreSums l.cycles.items m.cycles.items joined.cycles.items
  pub first : joined.first ≡ first_of l.first l.total m.first
  pub first_unjudged : joined.first_unjudged ≡ first_of l.first_unjudged l.total m.first_unjudged

-- both are ledgers of codes, which a number of 64 bits counts
pub record CanJoin (l m : Ledger) : Type 0 where
  pub xs : List ℕ
  pub ys : List ℕ
  pub left : IsLedger xs l
  pub right : IsLedger ys m
  pub few : length xs + length ys < 2 ^ 64

-- the ledger of two lists joined is that of the one and that of the other
abbrev pub EveryTwoListsJoin : Type 0
EveryTwoListsJoin = (xs ys : List ℕ) (l m both : Ledger) → IsLedger xs l → IsLedger ys m → IsJoined l m both
    → IsLedger (xs ++ ys) both

-- the counts of a ledger add up
abbrev pub EveryLedgerAddsUp : Type 0
EveryLedgerAddsUp = (codes : List ℕ) (l : Ledger) → IsLedger codes l → AddsUp l

-- two ledgers of the same codes say the same
abbrev pub EveryListHasOneLedger : Type 0
EveryListHasOneLedger = (codes : List ℕ) (l m : Ledger) → IsLedger codes l → IsLedger codes m → IsSameLedger l m
