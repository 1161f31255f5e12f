-- What is found in one line more.
use Rattle.std.proofs.Common.{◌≡◌, ◌++◌, ◌∷◌, ◌∙◌, [], ℕ, List, ap, filter, refl, subst, sym}
use Rattle.std.proofs.lemmas.List.{append-nil}
use Rattle.ledger.specs.declared.finding.Finding.{Finding}
use Rattle.surveys.specs.declared.kind.LineKind.{LineKind}
use Rattle.surveys.specs.Found.{AreFindings, AreFindingsUpTo, AreLineFindings}
use Rattle.surveys.specs.Lines.{IsSplit, IsWhole, is_some_line, lines}
use Rattle.surveys.proofs.Found.{findings_append}
use Rattle.surveys.proofs.Shown.{next_line}

-- before the first line
pub none_found : (kind : LineKind) (bytes : List ℕ) → AreFindingsUpTo kind bytes bytes []
none_found kind bytes = ([], refl, tt)

-- after the last
pub all_found : (kind : LineKind) (bytes rest : List ℕ) (findings : List Finding) → rest ≡ []
    → AreFindingsUpTo kind bytes rest findings → AreLineFindings kind bytes findings
all_found kind bytes rest findings nothing is = subst (λ (ls : List (List ℕ)). AreFindings kind ls findings)
    (sym (is.1 ∙ (ap (λ (left : List ℕ). is.0 ++ lines left) nothing ∙ append-nil is.0))) is.2

-- with what is found in the next line
pub next_found : (kind : LineKind) (bytes rest line more : List ℕ) (old new found : List Finding)
    → AreFindingsUpTo kind bytes rest old
    → IsSplit rest line more → AreFindings kind (filter is_some_line (line ∷ [])) found → new ≡ old ++ found
    → AreFindingsUpTo kind bytes more new
next_found kind bytes rest line more old new found is split finds adds = (
  is.0 ++ filter is_some_line (line ∷ []),
  next_line bytes rest line more is.0 is.1 split,
  subst (λ (fs : List Finding). AreFindings kind (is.0 ++ filter is_some_line (line ∷ [])) fs) (sym adds)
      (findings_append kind is.0 (filter is_some_line (line ∷ [])) old found is.2 finds),
)

-- in whole lines and in what comes after them
pub both_found : (kind : LineKind) (front back : List ℕ) (xs ys : List Finding) → IsWhole front
    → AreLineFindings kind front xs → AreLineFindings kind back ys → AreLineFindings kind (front ++ back) (xs ++ ys)
both_found kind front back xs ys whole one other = subst (λ (ls : List (List ℕ)). AreFindings kind ls (xs ++ ys))
    (sym (whole back)) (findings_append kind (lines front) (lines back) xs ys one other)
