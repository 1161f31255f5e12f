use Rattle.std.proofs.Common.{◌<◌, ◌∷◌, [], List, ℕ, arith, length, rules, subst, sym}
use Rattle.std.proofs.lemmas.Bool.{eqb-false}
use Rattle.surveys.specs.Found.{AreFindings}
use Rattle.surveys.proofs.Shown.{one_line}
use Rattle.surveys.proofs.judged.LineJudge.add_finding.Goals as goal

pub returns : goal.returns
returns g c =
    let line : List ℕ = c.args.line.now in
    let some : 0 < length line = omega (arith, eqb-false (length line) 0 (sym c.if-is_empty.ensures)) in (
      c.in_ok-judge_line.field-0 ∷ [],
      subst (λ (ls : List (List ℕ)). AreFindings c.args.self.now.kind ls (c.in_ok-judge_line.field-0 ∷ []))
          (sym (one_line line some))
          (c.in_ok-judge_line.ensures, tt),
      search rules,
    )
