-- What a text tells of codes.
use Rattle.std.specs.Prelude.{◌≡◌, ◌+◌, ℕ, List, length, count_by, position, ⊤}
use Rattle.ledger.specs.declared.code.TheConstants.{LONG_CYCLE}
use Rattle.ledger.specs.declared.ledger.Ledger.{Ledger}
use Rattle.ledger.specs.Kinds.{is_ordered, is_unjudged, is_overlook, is_violation}
use Rattle.ledger.specs.Counts.{AreCounts}
use Rattle.ledger.specs.declared.text_kind.Kind.{Kind}
use Rattle.ledger.specs.declared.text_kind.Kind.TheVariants.{Campaign, Survey}

-- the first place of what has no verdict, which the text of a campaign doesn't tell
abbrev pub HasUnjudgedOf : Kind → List ℕ → Ledger → Type 0
HasUnjudgedOf Campaign codes l = ⊤
HasUnjudgedOf Survey codes l = l.first_unjudged ≡ position is_unjudged codes

-- the text of the ledger is that of the ledger of these codes
pub record HasTextOf (kind : Kind) (codes : List ℕ) (l : Ledger) : Type 0 where
  pub total : l.total ≡ length codes
  pub ordered : l.ordered ≡ count_by is_ordered codes
  pub unjudged : l.unjudged ≡ count_by is_unjudged codes
  pub overlook : l.overlook ≡ count_by is_overlook codes
  pub lengths : length l.cycles.items ≡ LONG_CYCLE + 1
  pub cycles : AreCounts codes l.cycles.items
  pub first : l.first ≡ position is_violation codes
  pub first_unjudged : HasUnjudgedOf kind codes l
