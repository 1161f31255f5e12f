-- One block more.
use Rattle.std.proofs.Common.{◌≡◌, ◌+◌, ◌++◌, [], ℕ, List, Option, Some, None, IfSome, arith, ap, refl, sym}
use Rattle.std.proofs.Common.{subst}
use Rattle.std.proofs.Common.{◌∙◌, append_assoc, append-nil, length, length-append}
use Rattle.std.proofs.KnownBytes.{Consumes-nil, Consumes-trans}
use Rattle.std.specs.Io.KnownBytes.{Consumes, IsAtEnd}
use Rattle.devices.specs.Bytes.{Gathers}
use Rattle.ledger.specs.declared.survey_ledger.SurveyLedger.{SurveyLedger}
use Rattle.ledger.specs.Surveyed.{IsSurveyLedger}
use Rattle.surveys.specs.declared.kind.LineKind.{LineKind}
use Rattle.surveys.specs.declared.reports.Reports.{Reports}
use Rattle.surveys.proofs.LineLemmas.{whole_nil}
use Rattle.surveys.specs.Surveys.{IsSurvey, IsSurveyOfRead}
use Rattle.surveys.specs.Tallies.{IsTallied, IsUnderWay, Ends}
use Rattle.surveys.proofs.Found.{none_counted}

-- before the first block
pub begun : (kind : LineKind) (reports : Reports) (u s : Option (List ℕ)) (l : SurveyLedger) → IsSurveyLedger [] l
    → IsUnderWay kind reports u u l 0 [] s s
begun kind reports u s l none = record {
  front = [];
  tally = record {
    whole = whole_nil;
    survey = none_counted kind l reports s none;
    size = refl;
  };
  read = Consumes-nil u;
}

-- what was tallied and the filled block
pub filled : (u v w : Option (List ℕ)) (front old new : List ℕ) → Consumes u v (front ++ old)
    → Gathers v w old new → Consumes u w (front ++ new)
filled u v w front old new read gathered =
    subst (λ (t : List ℕ). Consumes u w t) (append_assoc front old gathered.0
    ∙ ap (λ (t : List ℕ). front ++ t) (sym gathered.2))
    (Consumes-trans u v w (front ++ old) gathered.0 read gathered.1)

module _ (kind : LineKind) (reports : Reports) (u v w s t : Option (List ℕ)) (l : SurveyLedger) (n : ℕ)
    (old block : List ℕ)
    (way : IsUnderWay kind reports u v l n old s t) (gathered : Gathers v w old block) where
  -- a block more was filled and tallied
  pub gone_on : (m : SurveyLedger) (k : ℕ) (rest : List ℕ) (o : Option (List ℕ))
      → IsTallied kind reports block rest l n t m k o → IsUnderWay kind reports u w m k rest s o
  gone_on m k rest o tallied = record {
    front = way.front ++ tallied.more;
    tally = tallied.grows way.front s way.tally;
    read = subst (λ (x : List ℕ). Consumes u w x) (ap (λ (x : List ℕ). way.front ++ x) tallied.cut
        ∙ sym (append_assoc way.front tallied.more rest)) (filled u v w way.front old block way.read gathered);
  }

  -- no byte was lost
  pub same_size : (m : SurveyLedger) (k : ℕ) (rest : List ℕ) (o : Option (List ℕ))
      → IsTallied kind reports block rest l n t m k o → k + length rest ≡ n + length block
  same_size m k rest o tallied = omega (
    arith,
    (tallied.grows way.front s way.tally).size,
    way.tally.size,
    length-append way.front tallied.more,
    ap (λ (x : List ℕ). length x) tallied.cut,
    length-append tallied.more rest,
  )

  -- the last block was filled and counted
  pub all_read : (m : SurveyLedger) (o : Option (List ℕ)) → Ends kind reports block l n t m o
      → IsSurveyOfRead kind u w m reports s o
  all_read m o ends = record {
    bytes = way.front ++ block;
    read = filled u v w way.front old block way.read gathered;
    survey = ends way.front s way.tally;
  }

-- where the bytes are known, they are all that were read
pub all_known : (kind : LineKind) (u v : Option (List ℕ)) (l : SurveyLedger) (reports : Reports) (s t : Option (List ℕ))
    → IsSurveyOfRead kind u v l reports s t → IsAtEnd v → IfSome u (λ bytes. IsSurvey kind bytes l reports s t)
all_known kind None v l reports s t is end = tt
all_known kind (Some xs) None l reports s t is end = absurd is.read
all_known kind (Some xs) (Some ys) l reports s t is end = subst (λ (bytes : List ℕ). IsSurvey kind bytes l reports s t)
    (sym (is.read ∙ (ap (λ (x : List ℕ). is.bytes ++ x) end ∙ append-nil is.bytes))) is.survey
