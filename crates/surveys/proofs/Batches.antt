-- Batches that are tallied one after another.
use Rattle.std.proofs.Common.{◌≡◌, ◌≤◌, ◌+◌, ◌++◌, [], ℕ, List, Option, arith, ap, refl, sym, subst}
use Rattle.std.proofs.Common.{◌∙◌, append_assoc, append-nil, drop, length, take, take-append-drop}
use Rattle.std.proofs.KnownBytes.{Consumes-nil}
use Rattle.std.proofs.lemmas.List.{length-take, take_all}
use Rattle.std.proofs.Math.Seq.{drop-append-add}
use Rattle.ledger.specs.declared.survey_ledger.SurveyLedger.{SurveyLedger}
use Rattle.surveys.specs.declared.kind.LineKind.{LineKind}
use Rattle.surveys.specs.declared.reports.Reports.{Reports}
use Rattle.surveys.specs.Lines.{IsWhole}
use Rattle.surveys.specs.Surveys.{IsSurveyOfRead}
use Rattle.surveys.specs.Tallies.{Ends, IsTally, IsTallied, IsUnderWay}
use Rattle.surveys.proofs.Blocks.{all_read}

-- what is whole to its end
pub whole_all : (end : ℕ) (bytes batch : List ℕ) → bytes ≡ batch → end ≡ length batch → IsWhole (take end bytes)
    → IsWhole batch
whole_all end bytes batch same size whole = subst (λ (b : List ℕ). IsWhole b)
    (ap (λ (b : List ℕ). take end b) same ∙ take_all end batch (omega (arith, size))) whole

-- what comes after two parts
pub dropped : (from n : ℕ) (bytes : List ℕ) → from ≤ length bytes → drop (from + n) bytes ≡ drop n (drop from bytes)
dropped from n bytes within =
    let front : List ℕ = take from bytes in
    let rest : List ℕ = drop from bytes in
    let size : length front ≡ from = omega (arith, length-take from bytes, within) in
    subst (λ (k : ℕ). drop (k + n) bytes ≡ drop n rest) size
    (subst (λ (b : List ℕ). drop (length front + n) b ≡ drop n rest) (take-append-drop from bytes)
    (drop-append-add front rest n))

-- no batch is tallied
pub none_tallied : (kind : LineKind) (reports : Reports) (bytes : List ℕ) (l : SurveyLedger) (n : ℕ)
    (w : Option (List ℕ))
    → IsTallied kind reports bytes bytes l n w l n w
none_tallied kind reports bytes l n w = record {
  more = [];
  cut = refl;
  grows = λ front start tally. subst (λ (t : List ℕ). IsTally kind reports t l n start w)
      (sym (append-nil front)) tally;
}

-- one more is tallied
pub more_tallied : (kind : LineKind) (reports : Reports) (bytes rest after : List ℕ) (l m o : SurveyLedger) (n k j : ℕ)
    (u v w : Option (List ℕ))
    → IsTallied kind reports bytes rest l n u m k v → IsTallied kind reports rest after m k v o j w
    → IsTallied kind reports bytes after l n u o j w
more_tallied kind reports bytes rest after l m o n k j u v w first then = record {
  more = first.more ++ then.more;
  cut = first.cut ∙ (ap (λ (t : List ℕ). first.more ++ t) then.cut ∙ sym (append_assoc first.more then.more after));
  grows = λ front start tally. subst (λ (t : List ℕ). IsTally kind reports t o j start w)
      (append_assoc front first.more then.more)
      (then.grows (front ++ first.more) start (first.grows front start tally));
}

-- from this place on
pub tallied_from : (kind : LineKind) (reports : Reports) (bytes part : List ℕ) (from n : ℕ) (l m o : SurveyLedger)
    (i k j : ℕ) (u v w : Option (List ℕ))
    → from ≤ length bytes → part ≡ drop from bytes → IsTallied kind reports bytes (drop from bytes) l i u m k v
    → IsTallied kind reports part (drop n part) m k v o j w
    → IsTallied kind reports bytes (drop (from + n) bytes) l i u o j w
tallied_from kind reports bytes part from n l m o i k j u v w within same first then =
    more_tallied kind reports bytes (drop from bytes) (drop (from + n) bytes) l m o i k j u v w first
    (subst (λ (after : List ℕ). IsTallied kind reports (drop from bytes) after m k v o j w) (sym (dropped from n bytes
    within))
    (subst (λ (b : List ℕ). IsTallied kind reports b (drop n b) m k v o j w) same then))

-- what is tallied so far goes on where the tally is
pub tally_on : (kind : LineKind) (reports : Reports) (bytes rest front : List ℕ) (l m : SurveyLedger) (n k : ℕ)
    (start now then : Option (List ℕ))
    → IsTally kind reports front l n start now → IsTallied kind reports bytes rest l n now m k then
    → (f : List ℕ) × (s : Option (List ℕ)) × IsTally kind reports f m k s then
tally_on kind reports bytes rest front l m n k start now then tally tallied =
    (front ++ tallied.more, start, tallied.grows front start tally)

-- the last bytes are counted
pub all_ended : (kind : LineKind) (reports : Reports) (u v s t o : Option (List ℕ)) (l m : SurveyLedger) (n : ℕ)
    (block : List ℕ)
    → IsUnderWay kind reports u v l n block s t → Ends kind reports block l n t m o
    → IsSurveyOfRead kind u v m reports s o
all_ended kind reports u v s t o l m n block way ends =
    all_read kind reports u v v s t l n block block way ([], Consumes-nil v, sym (append-nil block)) m o ends
