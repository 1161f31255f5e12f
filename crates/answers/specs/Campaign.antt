-- What is answered of the counts of campaigns.
use Rattle.std.specs.Prelude.{◌≡◌, if◌then◌else◌, is_some, nat_lt}
use Rattle.ledger.specs.declared.ledger.Ledger.{Ledger}
use Rattle.ledger.specs.Counted.{campaign_text}
use Rattle.verdicts.specs.declared.printed.Answer.{Answer}
use Rattle.verdicts.specs.declared.outcome.Outcome.{Outcome}
use Rattle.verdicts.specs.declared.outcome.Outcome.TheVariants.{Done, Unfinished, Violation}

-- a violation where there is one, else the outcome of what has no verdict, where there is such
abbrev pub ledger_outcome : Outcome → Ledger → Outcome
ledger_outcome unjudged l =
    if is_some l.first then Violation
    else (if nat_lt 0 l.unjudged then unjudged else Done)

-- the text of a campaign's ledger, and its outcome
pub record IsTrialsAnswer (l : Ledger) (answer : Answer) : Type 0 where
  pub outcome : answer.outcome ≡ ledger_outcome Unfinished l
  pub text : answer.text.items ≡ campaign_text l
