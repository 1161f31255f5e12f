-- A campaign has one ledger, whose counts add up to its trials.
use Rattle.std.specs.Prelude.{◌≡◌, ◌+◌, ◌==◌, ◌&&◌, ℕ, List, not, sum}
use Rattle.ledger.specs.declared.code.TheConstants.{UNFINISHED}
use Rattle.ledger.specs.declared.ledger.Ledger.{Ledger}
use Rattle.ledger.specs.Kinds.{is_ordered, is_unjudged, is_violation}
use Rattle.ledger.specs.Counts.{IsLedger, IsSameLedger}
use Rattle.trials.specs.Campaigns.{Plan}
use Rattle.trials.specs.Codes.{IsCode, AreCodes}

-- a trial has one code
abbrev pub EveryTrialHasOneCode : Type 0
EveryTrialHasOneCode = (p : Plan) (k n m : ℕ) → IsCode p k n → IsCode p k m → n ≡ m

-- without verdict is an unfinished run alone, and what is neither this nor an order is a violation
abbrev pub HasItsKind : ℕ → Type 0
HasItsKind n = (is_unjudged n ≡ (n == UNFINISHED))
    × (is_violation n ≡ (not (n == UNFINISHED) && not (is_ordered n)))

-- every trial has its kind
abbrev pub EveryTrialHasItsKind : Type 0
EveryTrialHasItsKind = (p : Plan) (k n : ℕ) → IsCode p k n → HasItsKind n

-- two ledgers of a campaign's codes say the same
abbrev pub EveryCampaignHasOneLedger : Type 0
EveryCampaignHasOneLedger = (p : Plan) (codes others : List ℕ) (l m : Ledger)
    → AreCodes p codes → IsLedger codes l → AreCodes p others → IsLedger others m → IsSameLedger l m

-- each trial of a campaign is counted once: as ordered, unfinished, an overlook or a cycle
abbrev pub EveryCampaignAddsUp : Type 0
EveryCampaignAddsUp = (p : Plan) (codes : List ℕ) (l : Ledger) → AreCodes p codes → IsLedger codes l
    → l.ordered + l.unjudged + l.overlook + sum l.cycles.items ≡ p.trials
