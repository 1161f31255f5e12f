-- What is answered to findings.
use Rattle.std.proofs.Common.{◌≡◌, ◌↔◌, ◌++◌, ◌∷◌, [], refl}
use Rattle.std.specs.Prelude.{codes, decimal}
use Rattle.verdicts.specs.declared.printed.Answer.{Answer}
use Rattle.verification.specs.declared.text_check.TextCheck.{TextCheck}
use Rattle.verification.specs.declared.text_check.TextCheck.TheVariants.{Holds, FailsAt, EndsEarly}
use Rattle.verification.specs.Checked.{AnswersCheck, IsCheckAnswer}

-- the answer to what is found of a text says whether it is such a proof
pub says_proof : (P : Type 0) (check : TextCheck) (answer : Answer) → (check ≡ Holds) ↔ P → AnswersCheck check answer
    → IsCheckAnswer P answer
says_proof P Holds answer exact is = record {
  holds = λ p. (is.outcome, is.printed);
  fails = λ no. absurd (no (exact.0 refl));
}
says_proof P (FailsAt n) answer exact is = record {
  holds = λ p. let clash : FailsAt n ≡ Holds = exact.1 p in absurd cc;
  fails = λ no. (is.outcome, (codes ": line " ++ (decimal n ++ 10 ∷ []), is.printed));
}
says_proof P EndsEarly answer exact is = record {
  holds = λ p. let clash : EndsEarly ≡ Holds = exact.1 p in absurd cc;
  fails = λ no. (is.outcome, (10 ∷ [], is.printed));
}
