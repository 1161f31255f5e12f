-- What is found in lines.
use Rattle.std.proofs.Common.{◌≡◌, ◌<◌, ◌≤◌, ◌+◌, ◌++◌, ◌^◌, ℕ, List, [], ◌∷◌, Option}
use Rattle.std.proofs.Common.{arith, sym, ap, ◌∙◌, subst, length, length-append, refl}
use Rattle.std.proofs.KnownBytes.{Appends-nil, Appends-trans}
use Rattle.std.specs.Io.KnownBytes.{Appends}
use Rattle.std.proofs.lemmas.List.{append_assoc, append-nil, map-append, length-map}
use Rattle.ledger.specs.declared.finding.Finding.{Finding}
use Rattle.ledger.specs.declared.survey_ledger.SurveyLedger.{SurveyLedger}
use Rattle.ledger.specs.Surveyed.{IsSurveyLedger}
use Rattle.ledger.specs.Findings.{finding_code}
use Rattle.ledger.specs.Surveyed.{CanJoinSurveys, AreJoinedSurveys}
use Rattle.ledger.specs.SurveyedLaws.{joined_surveys}
use Rattle.surveys.specs.declared.kind.LineKind.{LineKind}
use Rattle.surveys.specs.declared.reports.Reports.{Reports}
use Rattle.surveys.specs.declared.reports.Reports.TheVariants.{EachLine, NoLine}
use Rattle.surveys.specs.Found.{AreFindings, codes_of}
use Rattle.surveys.proofs.LineLemmas.{few_lines}
use Rattle.surveys.specs.Lines.{IsCut, lines}
use Rattle.surveys.specs.Surveys.{IsSurveyOfLines, IsSurvey, IsSurveyUpTo, told_text}
use Rattle.surveys.specs.Each.{each_text}
use Rattle.surveys.proofs.EachText.{each_append}

-- what is found in lines and in more lines
pub findings_append : (kind : LineKind) (ls ms : List (List ℕ)) (xs ys : List Finding) → AreFindings kind ls xs
    → AreFindings kind ms ys
    → AreFindings kind (ls ++ ms) (xs ++ ys)
findings_append kind [] ms [] ys a b = b
findings_append kind [] ms (x ∷ xs) ys a b = absurd a
findings_append kind (l ∷ ls) ms [] ys a b = absurd a
findings_append kind (l ∷ ls) ms (x ∷ xs) ys a b = (a.0, findings_append kind ls ms xs ys a.1 b)

-- as much as there are lines
findings_length : (kind : LineKind) (ls : List (List ℕ)) (xs : List Finding) → AreFindings kind ls xs
    → length xs ≡ length ls
findings_length kind [] [] a = omega arith
findings_length kind [] (x ∷ xs) a = absurd a
findings_length kind (l ∷ ls) [] a = absurd a
findings_length kind (l ∷ ls) (x ∷ xs) a = omega (arith, findings_length kind ls xs a.1)

-- what is told of two lists
told_append : (reports : Reports) (xs ys : List Finding) → told_text reports 0 (xs ++ ys)
    ≡ told_text reports 0 xs ++ told_text reports (length xs) ys
told_append NoLine xs ys = refl
told_append EachLine xs ys = each_append 0 xs ys ∙ ap (λ (n : ℕ). each_text 0 xs ++ each_text n ys) (omega arith)

-- a survey counts as many as there are lines
survey_size : (kind : LineKind) (ls : List (List ℕ)) (l : SurveyLedger) (reports : Reports) (u v : Option (List ℕ))
    (s : IsSurveyOfLines kind ls l reports u v)
    → (l.ledger.total ≡ length s.findings) × (length s.findings ≡ length ls)
survey_size kind ls l reports u v s = (
  s.counted.ledger.total ∙ length-map s.findings finding_code,
  findings_length kind ls s.findings s.found,
)

-- before the first line
pub none_counted : (kind : LineKind) (l : SurveyLedger) (reports : Reports) (u : Option (List ℕ)) → IsSurveyLedger [] l
    → IsSurvey kind [] l reports u u
none_counted kind l reports u none = record {
  findings = [];
  found = tt;
  counted = none;
  told = nothing reports;
}
  where
    nothing : (r : Reports) → Appends u u (told_text r 0 [])
    nothing NoLine = Appends-nil u
    nothing EachLine = Appends-nil u

module _ (kind : LineKind) (all bytes rest : List ℕ) (ls : List (List ℕ)) (fs : List Finding) (l : SurveyLedger)
    (reports : Reports)
    (u v : Option (List ℕ)) (so_far : IsSurveyUpTo kind all bytes l reports u v) (cut : IsCut bytes ls rest)
    (found : AreFindings kind ls fs) where
  -- there are no more lines than bytes
  pub few_found : l.ledger.total + length fs ≤ length all
  few_found =
      let size = survey_size kind so_far.front l reports u v so_far.survey in
      omega (
        arith,
        size.0,
        size.1,
        findings_length kind ls fs found,
        few_lines all,
        ap (λ (parts : List (List ℕ)). length parts) so_far.cut,
        length-append so_far.front (lines bytes),
        ap (λ (parts : List (List ℕ)). length parts) cut,
        length-append ls (lines rest),
      )

  -- so their codes can be counted
  pub part_joins : (m : SurveyLedger) → IsSurveyLedger (codes_of fs) m → length all < 2 ^ 64 → CanJoinSurveys l m
  part_joins m counted few = record {
    xs = codes_of so_far.survey.findings;
    ys = codes_of fs;
    left = so_far.survey.counted;
    right = counted;
    few = omega (
      arith,
      length-map so_far.survey.findings finding_code,
      length-map fs finding_code,
      (survey_size kind so_far.front l reports u v so_far.survey).0,
      few_found,
      few,
    );
  }

  -- and are then surveyed
  pub part_joined : (m both : SurveyLedger) (w : Option (List ℕ)) → IsSurveyLedger (codes_of fs) m
      → AreJoinedSurveys l m both
      → Appends v w (told_text reports l.ledger.total fs) → IsSurveyUpTo kind all rest both reports u w
  part_joined m both w counted join told =
      let old : List Finding = so_far.survey.findings in
      record {
        front = so_far.front ++ ls;
        cut = so_far.cut ∙ (ap (λ (parts : List (List ℕ)). so_far.front ++ parts) cut
            ∙ sym (append_assoc so_far.front ls (lines rest)));
        survey = record {
          findings = old ++ fs;
          found = findings_append kind so_far.front ls old fs so_far.survey.found found;
          counted = subst (λ (codes : List ℕ). IsSurveyLedger codes both) (sym (map-append finding_code old fs))
              (joined_surveys (codes_of old) (codes_of fs) l m both so_far.survey.counted counted join);
          told = subst (λ (text : List ℕ). Appends u w text) (sym (told_append reports old fs))
              (Appends-trans u v w (told_text reports 0 old) (told_text reports (length old) fs) so_far.survey.told
              (subst (λ (n : ℕ). Appends v w (told_text reports n fs))
              (survey_size kind so_far.front l reports u v so_far.survey).0 told));
        };
      }

-- up to nothing are all lines
pub all_counted : (kind : LineKind) (bytes : List ℕ) (l : SurveyLedger) (reports : Reports) (u v : Option (List ℕ))
    → IsSurveyUpTo kind bytes [] l reports u v → IsSurvey kind bytes l reports u v
all_counted kind bytes l reports u v is = subst (λ (ls : List (List ℕ)). IsSurveyOfLines kind ls l reports u v)
    (sym (is.cut ∙ append-nil is.front)) is.survey
