-- What is read of a text.
use Rattle.std.specs.Prelude.{◌≡◌, ◌<◌, ◌-◌, ◌^◌, ◌==◌, [], ℕ, List, Option, None, Some, IfSome, codes, false}
use Rattle.std.specs.Prelude.{if◌then◌else◌, position, slice_index}
use Rattle.ledger.specs.declared.ledger.Ledger.{Ledger}
use Rattle.ledger.specs.Counted.{first_line}
use Rattle.ledger.specs.Kinds.{is_unjudged}
use Rattle.texts.specs.Decimals.{is_digit}
use Rattle.ledger.specs.declared.text_kind.Kind.{Kind}
use Rattle.ledger.specs.declared.text_kind.Kind.TheVariants.{Campaign, Survey}
use Rattle.ledger.specs.TextOf.{HasTextOf}
use Rattle.ledger.specs.Texts.{noun}

-- a byte that is not from 0 to 9
abbrev pub IsNoDigit : ℕ → Type 0
IsNoDigit b = is_digit b ≡ false

-- the numbers have 64 bits
abbrev pub Are64Bit : List ℕ → Type 0
Are64Bit counts = (n : ℕ) → slice_index counts n < 2 ^ 64

-- the place, where there is one, has 64 bits
abbrev pub Is64BitPlace : Option ℕ → Type 0
Is64BitPlace place = IfSome place (λ n. n < 2 ^ 64)

-- what stands after the line of the first violation: of a survey the line of the first that is refused
abbrev pub tail : Kind → Option ℕ → List ℕ
tail Campaign place = []
tail Survey place = first_line (codes "refused") (noun Survey) place

-- a place that is not the first violation's
abbrev pub other_place : Option ℕ → ℕ
other_place None = 0
other_place (Some place) = 1 - place

-- a first place of what has no verdict beside the first violation, where some have none
abbrev pub place_beside : Option ℕ → ℕ → Option ℕ
place_beside first unjudged = if unjudged == 0 then None else Some (other_place first)

-- the first place of what has no verdict: of a survey as it is told, of a campaign another one
abbrev pub place_read : Kind → Option ℕ → Option ℕ → Option ℕ
place_read Campaign other told = other
place_read Survey other told = told

-- a ledger that is read tells of these codes, with the first place of what has no verdict that is read
pub record IsReadOf (kind : Kind) (codes : List ℕ) (l : Ledger) : Type 0 where
  pub tells : HasTextOf kind codes l
  pub place : l.first_unjudged ≡ place_read kind (place_beside l.first l.unjudged) (position is_unjudged codes)
