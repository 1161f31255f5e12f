-- Laws of what surveys count.
use Rattle.std.proofs.Common.{◌≡◌, ◌++◌, ℕ, Bool, List, arith, length}
use Rattle.ledger.specs.declared.survey_ledger.KindCount.{KindCount}
use Rattle.ledger.specs.declared.survey_ledger.SurveyLedger.{SurveyLedger}
use Rattle.ledger.specs.Kinds.{is_unfinished, is_unread}
use Rattle.ledger.specs.LedgerLaws.{count_append, joined, position_append}
use Rattle.ledger.specs.Surveyed.{AreJoinedKinds, AreJoinedSurveys, IsKindCount, IsSurveyLedger}

-- the count of two lists joined is that of the one and that of the other
pub joined_kinds : (p : ℕ → Bool) (xs ys : List ℕ) (total : ℕ) (k m both : KindCount) → total ≡ length xs
    → IsKindCount p xs k → IsKindCount p ys m → AreJoinedKinds total k m both → IsKindCount p (xs ++ ys) both
joined_kinds p xs ys total k m both size a b j = record {
  count = omega (arith, j.count, a.count, b.count, count_append p xs ys);
  first = let law = position_append p xs ys in
      let u = j.first in let v = a.first in let w = b.first in let n = size in cc;
}

-- and so is what surveys count
pub joined_surveys : (xs ys : List ℕ) (l m both : SurveyLedger) → IsSurveyLedger xs l → IsSurveyLedger ys m
    → AreJoinedSurveys l m both → IsSurveyLedger (xs ++ ys) both
joined_surveys xs ys l m both a b j = record {
  ledger = joined xs ys l.ledger m.ledger both.ledger a.ledger b.ledger j.ledger;
  unfinished =
      joined_kinds is_unfinished xs ys l.ledger.total l.unfinished m.unfinished both.unfinished a.ledger.total
      a.unfinished b.unfinished j.unfinished;
  unread =
      joined_kinds is_unread xs ys l.ledger.total l.unread m.unread both.unread a.ledger.total a.unread b.unread
      j.unread;
}
