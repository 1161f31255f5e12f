-- A tally with the lines of the next bytes.
use Rattle.std.proofs.Common.{◌≡◌, ◌+◌, ◌-◌, ◌<◌, ◌≤◌, ℕ, List, [], ◌∷◌, ◌++◌, Option, Some, arith, sym, ap}
use Rattle.std.proofs.Common.{ap₂, subst, ◌∙◌, get_or, length, length-append, take, drop, take-append-drop}
use Rattle.std.proofs.lemmas.Bool.{eqb-true}
use Rattle.std.proofs.lemmas.List.{take_more, take_rest, length-drop, get_or-drop}
use Rattle.memchr.specs.Find.{IsLastByte, is_byte}
use Rattle.ledger.specs.declared.survey_ledger.SurveyLedger.{SurveyLedger}
use Rattle.surveys.specs.declared.kind.LineKind.{LineKind}
use Rattle.surveys.specs.declared.reports.Reports.{Reports}
use Rattle.surveys.specs.Lines.{IsWhole, lines}
use Rattle.surveys.proofs.LineLemmas.{whole_append, whole_end}
use Rattle.surveys.specs.Surveys.{ExtendsSurvey, IsSurvey, IsSurveyUpTo}
use Rattle.surveys.specs.Tallies.{IsTally, IsTallied, Grows}
use Rattle.surveys.proofs.Found.{all_counted}

-- where a tally is, the lines of the next bytes begin
pub up_to_front : (kind : LineKind) (reports : Reports) (front part : List ℕ) (l : SurveyLedger) (n : ℕ)
    (u v : Option (List ℕ))
    → IsTally kind reports front l n u v → IsSurveyUpTo kind (front ++ part) part l reports u v
up_to_front kind reports front part l n u v tally = record {
  front = lines front;
  cut = tally.whole part;
  survey = tally.survey;
}

-- the survey of both
pub ended : (kind : LineKind) (reports : Reports) (front part : List ℕ) (l m : SurveyLedger) (n : ℕ)
    (u v w : Option (List ℕ))
    → IsTally kind reports front l n u v → ExtendsSurvey kind part [] reports l v m w
    → IsSurvey kind (front ++ part) m reports u w
ended kind reports front part l m n u v w tally on = all_counted kind (front ++ part) m reports u w
    (on (front ++ part) u (up_to_front kind reports front part l n u v tally))

-- the tally of both
pub grown : (kind : LineKind) (reports : Reports) (front part : List ℕ) (l m : SurveyLedger) (n k : ℕ)
    (u v w : Option (List ℕ))
    → IsTally kind reports front l n u v → ExtendsSurvey kind part [] reports l v m w → k ≡ n + length part
    → IsWhole part
    → IsTally kind reports (front ++ part) m k u w
grown kind reports front part l m n k u v w tally on size whole = record {
  whole = whole_append front part tally.whole whole;
  survey = ended kind reports front part l m n u v w tally on;
  size = omega (arith, size, tally.size, length-append front part);
}

-- what comes up to the last end of a line after some bytes is whole
pub whole_front : (block : List ℕ) (from end : ℕ) → from ≤ length block
    → IsLastByte (is_byte 10) (take (length block - from) (drop from block)) (Some end)
    → IsWhole (take (from + end + 1) block)
whole_front block from end within last =
    let rest : take (length block - from) (drop from block) ≡ drop from block = take_rest block from in
    let low : from + end < length block = omega (
      arith,
      last.0.high,
      ap (λ (bytes : List ℕ). length bytes) rest,
      length-drop from block,
      within,
    ) in
    let ten : get_or block (from + end) 0 ≡ 10 = sym (get_or-drop from block end 0)
    ∙ (ap (λ (bytes : List ℕ). get_or bytes end 0) (sym rest) ∙ eqb-true _ 10 last.1) in
    subst (λ (bytes : List ℕ). IsWhole bytes) (sym (take_more block (from + end) 0 low
    ∙ ap (λ (x : ℕ). take (from + end) block ++ x ∷ []) ten)) (whole_end (take (from + end) block))

-- a block is cut where a line begins
pub tallied : (kind : LineKind) (reports : Reports) (l m : SurveyLedger) (n k end : ℕ) (u v : Option (List ℕ))
    (block seen rest part : List ℕ)
    → seen ≡ block → rest ≡ drop end block → part ≡ take end block → IsWhole (take end seen)
    → (IsWhole part → Grows kind reports part l n u m k v) → IsTallied kind reports block rest l n u m k v
tallied kind reports l m n k end u v block seen rest part same is_rest is_part whole grows = record {
  more = part;
  cut = sym (take-append-drop end block)
      ∙ ap₂ (λ (a b : List ℕ). a ++ b) (sym is_part) (sym is_rest);
  grows = grows (subst (λ (bytes : List ℕ). IsWhole bytes)
      (ap (λ (bytes : List ℕ). take end bytes) same ∙ sym is_part) whole);
}
