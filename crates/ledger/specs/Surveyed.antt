-- What a survey counts: a ledger, and what is unfinished and what is unread.
use Rattle.std.specs.Prelude.{◌≡◌, ◌+◌, ◌<◌, ◌^◌, ℕ, Bool, List, count_by, length, position}
use Rattle.ledger.specs.declared.survey_ledger.KindCount.{KindCount}
use Rattle.ledger.specs.declared.survey_ledger.SurveyLedger.{SurveyLedger}
use Rattle.ledger.specs.Counts.{IsLedger}
use Rattle.ledger.specs.Joined.{IsJoined, first_of}
use Rattle.ledger.specs.Kinds.{is_unfinished, is_unread}

-- how many codes pass a test, and the place of the first
pub record IsKindCount (p : ℕ → Bool) (codes : List ℕ) (k : KindCount) : Type 0 where
  pub count : k.count ≡ count_by p codes
  pub first : k.first ≡ position p codes

-- what a survey counts of these codes, in order
pub record IsSurveyLedger (codes : List ℕ) (l : SurveyLedger) : Type 0 where
  pub ledger : IsLedger codes l.ledger
  pub unfinished : IsKindCount is_unfinished codes l.unfinished
  pub unread : IsKindCount is_unread codes l.unread

-- the count of two lists, of which the first has this many codes
pub record AreJoinedKinds (total : ℕ) (k m joined : KindCount) : Type 0 where
  pub count : joined.count ≡ k.count + m.count
  pub first : joined.first ≡ first_of k.first total m.first

-- the counts of both
pub record AreJoinedSurveys (l m joined : SurveyLedger) : Type 0 where
  pub ledger : IsJoined l.ledger m.ledger joined.ledger
  pub unfinished : AreJoinedKinds l.ledger.total l.unfinished m.unfinished joined.unfinished
  pub unread : AreJoinedKinds l.ledger.total l.unread m.unread joined.unread

-- both count codes, which a number of 64 bits counts
pub record CanJoinSurveys (l m : SurveyLedger) : Type 0 where
  pub xs : List ℕ
  pub ys : List ℕ
  pub left : IsSurveyLedger xs l
  pub right : IsSurveyLedger ys m
  pub few : length xs + length ys < 2 ^ 64
