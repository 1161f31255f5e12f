-- What a call leaves in its caller's buffers.
use Rattle.std.specs.Prelude.{◌≡◌, ◌≤◌, ◌<◌, ◌++◌, ℕ, List, drop, length}
use Rattle.ledger.specs.declared.code.TheConstants.{ORDERED, CYCLE, REFUSED, OVERLOOK, LOAD}
use Rattle.ledger.specs.declared.ledger.Ledger.{Ledger}
use Rattle.ledger.specs.Counts.{IsLedger}
use Rattle.verdicts.specs.declared.outcome.Outcome.{Outcome}
use Rattle.verdicts.specs.declared.outcome.Outcome.TheVariants.{Refused}
use Rattle.verdicts.specs.declared.printed.Answer.{Answer}
use Rattle.answers.specs.Campaign.{ledger_outcome}
use Rattle.surveys.specs.declared.kind.LineKind.TheVariants.{Recording}
use Rattle.surveys.specs.Coded.{AreLineCodes}

-- a text, n long, stands at the front of the buffer where it has room; else the buffer stays
pub record IsWrittenWhole (text old new : List ℕ) (n : ℕ) : Type 0 where
  pub size : n ≡ length text
  pub fits : length text ≤ length old → new ≡ text ++ drop (length text) old
  pub stays : length old < length text → new ≡ old

-- nothing is written
pub record IsNothing (old new : List ℕ) (n : ℕ) : Type 0 where
  pub size : n ≡ 0
  pub stays : new ≡ old

-- the text of such an answer, with its outcome
pub record IsAnswered (Is : Answer → Type 0) (outcome : Outcome) (old new : List ℕ) (n : ℕ) : Type 0 where
  pub answer : Answer
  pub is : Is answer
  pub outcome_is : answer.outcome ≡ outcome
  pub written : IsWrittenWhole answer.text.items old new n

-- the outcome of a survey of recordings with these codes
pub record IsOutcomeOf (codes : List ℕ) (outcome : Outcome) : Type 0 where
  pub ledger : Ledger
  pub counted : IsLedger codes ledger
  pub is : outcome ≡ ledger_outcome Refused ledger

-- the codes of what is found in the lines, in order, and the outcome of a survey of them
pub record AreCodesAnswered (lines : List ℕ) (outcome : Outcome) (old new : List ℕ) (n : ℕ) : Type 0 where
  pub codes : List ℕ
  pub are : AreLineCodes Recording lines codes
  pub outcome_is : IsOutcomeOf codes outcome
  pub written : IsWrittenWhole codes old new n

-- the numbers by which callers in C and Python read codes
pub record AreCodeNumbers : Type 0 where
  pub ordered : ORDERED ≡ 3
  pub cycle : CYCLE ≡ 16
  pub refused : REFUSED ≡ 65536
  pub overlook : OVERLOOK ≡ 1048576
  pub load : LOAD ≡ 1024
