-- The text of the verdict on a recording is a proof.
use Rattle.std.proofs.Common.{◌≡◌, ◌≢◌, ◌<◌, ◌≤◌, ◌↔◌, ℕ, List, [], inl, inr, length, get_or, arith, refl, sym, subst}
use Rattle.std.specs.Prelude.{Bool, false, IsTrue, Result, IfOk, Option, Some, None, MatchOption}
use Rattle.std.proofs.lemmas.Bool.{cases_lt, false≢true}
use Rattle.std.proofs.lemmas.List.{get_or_default, get_or_past}
use Rattle.std.proofs.lemmas.Result.{IfOk-weaker}
use Rattle.common.specs.declared.limits.TheConstants.{MAX_EVENTS}
use Rattle.common.specs.declared.memory.OutOfMemory.{OutOfMemory}
use Rattle.recording.specs.Execution.{Execution, event_count}
use Rattle.recording.specs.Recording.{IsRecording}
use Rattle.relations.specs.Forced.{Forced}
use Rattle.relations.specs.Cycle.{IsCycle}
use Rattle.relations.specs.CycleLaws.{exact_certifies, short_cycle}
use Rattle.relations.specs.ForcedLaws.{forced_within}
use Rattle.labels.specs.Certified.{lists_of}
use Rattle.labels.specs.declared.certificate.Certificate.{Certificate}
use Rattle.verdicts.specs.declared.verdict.Verdict.{Verdict}
use Rattle.verdicts.specs.declared.verdict.Verdict.TheVariants.{Ordered, Overlook, Cycle}
use Rattle.verdicts.specs.Judgement.{IsCycleVerdict, IsOrderedVerdict, IsOverlookVerdict, IsVerdict}
use Rattle.verdicts.specs.VerdictText.{IsVerdictText}
use Rattle.verdicts.specs.Verified.{Verifies}
use Rattle.long.specs.declared.answer.LongAnswer.{LongAnswer}
use Rattle.long.specs.Answer.{IsWitness}
use Rattle.long.specs.Texts.{IsLongText}
use Rattle.verification.specs.declared.text_check.TextCheck.{TextCheck}
use Rattle.verification.specs.declared.text_check.TextCheck.TheVariants.{Holds}
use Rattle.long.specs.AnswerLaws.{answer_holds}
use Rattle.verification.specs.Proof.{Are16Bit, EveryAnswerHolds, EveryVerdictHolds, HasShortLabels, IsLongProof}
use Rattle.verification.specs.Proof.{IsProof, IsTextOfAnswer, IsTextOfVerdict}
use Rattle.verification.specs.Spelled.{IsSameAnswer, IsSameVerdict}
use Rattle.verification.proofs.OneText.{same_long_text, same_text, same_verifies, same_witness}

module _ (x : Execution) (is : IsRecording x) (few : event_count x ≤ MAX_EVENTS) where
  -- forced pairs are pairs of events
  within : (e f : ℕ) → Forced x e f → (e < event_count x) × (f < event_count x)
  within e f forced = forced_within x is.well_formed forced.0 e f forced.1

  -- the labels of the verdict are at most the length of its cycle, and so short
  labels_short : (c : Certificate) → IsCycleVerdict x c.cycle.items (lists_of c.rows.items) → (v : ℕ)
      → Are16Bit (get_or (lists_of c.rows.items) v [])
  labels_short c found v = elim (cases_lt v (event_count x)) [
    | inl low ↦ λ k d inside.
        let exact = found.exact.exact v low in
        let other : (d : List ℕ) × IsCycle (Forced x) d × (length d ≤ event_count x) =
        short_cycle (Forced x) (event_count x) within c.cycle.items found.least.shortest.cycle in
        omega (
          arith,
          few,
          other.2,
          found.least.shortest.shortest other.0 other.1,
          (exact.labels k (omega (arith, inside, exact.one_each))).cap,
          get_or_default (get_or (lists_of c.rows.items) v []) k d 0 inside,
        )
    | inr past ↦ subst Are16Bit
        (sym (get_or_past (lists_of c.rows.items) v [] (omega (arith, past, found.exact.one_each))))
        (λ k d none. absurd (omega (arith, none)))
  ]

  -- the text of a verdict is a proof
  proof_of : (text : List ℕ) (v : Verdict) → IsVerdictText x v text → IsVerdict x v → IsProof x text
  proof_of text (Ordered m) printed found =
      let ordered : IsOrderedVerdict x m.items = found in
      record { verdict = Ordered m; printed = printed; verified = ordered.order; short = tt }
  proof_of text (Overlook l s) printed found =
      let overlook : IsOverlookVerdict x l s = found in
      record { verdict = Overlook l s; printed = printed; verified = overlook.least.overlooks; short = tt }
  proof_of text (Cycle c) printed found =
      let cycle : IsCycleVerdict x c.cycle.items (lists_of c.rows.items) = found in record {
        verdict = Cycle c;
        printed = printed;
        verified = exact_certifies (Forced x) (event_count x) (length c.cycle.items) (lists_of c.rows.items)
            c.cycle.items within cycle.least.shortest refl cycle.exact;
        short = labels_short c cycle;
      }

-- the law
pub judged_is_proof : EveryVerdictHolds
judged_is_proof x text is few judged = proof_of x is few text judged.verdict judged.printed judged.found

-- a text at fault is no proof
pub fault_decides : (P : Type 0) → (P → ⊥) → (r : Result TextCheck OutOfMemory) → IfOk r (λ f. f ≢ Holds)
    → IfOk r (λ f. (f ≡ Holds) ↔ P)
fault_decides P never r fault = IfOk-weaker r _ _ (λ f other. (λ is. absurd (other is), λ p. absurd (never p))) fault

-- so what is said of a text exactly where it is a proof is said of that of the verdict
pub judged_holds : (x : Execution) (text : List ℕ) → IsRecording x → event_count x ≤ MAX_EVENTS → EveryVerdictHolds
    → (r : Result TextCheck OutOfMemory) → IfOk r (λ f. (f ≡ Holds) ↔ IsProof x text)
    → IfOk r (λ f. IsTextOfVerdict x text → f ≡ Holds)
judged_holds x text is few law r exact = IfOk-weaker r _ _ (λ f says judged. says.1 (law x text is few judged)) exact

-- the law of answers to recordings of any length
pub answer_is_proof : EveryAnswerHolds
answer_is_proof x text judged = record {
  answer = judged.answer;
  printed = judged.printed;
  witness = answer_holds x judged.answer judged.found;
}

-- so what is said of a text exactly where it is such a proof is said of that of the answer
pub answer_check_holds : (x : Execution) (text : List ℕ) → EveryAnswerHolds → (r : Result TextCheck OutOfMemory)
    → IfOk r (λ f. (f ≡ Holds) ↔ IsLongProof x text) → IfOk r (λ f. IsTextOfAnswer x text → f ≡ Holds)
answer_check_holds x text law r exact = IfOk-weaker r _ _ (λ f says judged. says.1 (law x text judged)) exact

module _ (x : Execution) (text : List ℕ) where
  -- what is read of a text
  abbrev pub ReadsVerdict : Option Verdict → Type 0
  ReadsVerdict r = (v : Verdict) → IsVerdictText x v text → Verifies x v → HasShortLabels v
      → MatchOption r ⊥ (IsSameVerdict v)

  abbrev pub ReadsAnswer : Option LongAnswer → Type 0
  ReadsAnswer r = (a : LongAnswer) → IsLongText x a text → IsWitness x a → MatchOption r ⊥ (IsSameAnswer a)

  -- where nothing is read the text is no proof
  pub none_read : (r : Option Verdict) → r ≡ None → ReadsVerdict r → IsProof x text → ⊥
  none_read r none reads p = rw none at (reads p.verdict p.printed p.verified p.short)

  pub no_answer_read : (r : Option LongAnswer) → r ≡ None → ReadsAnswer r → IsLongProof x text → ⊥
  no_answer_read r none reads p = rw none at (reads p.answer p.printed p.witness)

  -- nor is it where what is read does not hold
  pub fails_read : (r : Option Verdict) (v : Verdict) → r ≡ Some v → ReadsVerdict r → (Verifies x v → ⊥)
      → IsProof x text → ⊥
  fails_read r v some reads never p =
      never (same_verifies x p.verdict v (rw some at (reads p.verdict p.printed p.verified p.short)) p.verified)

  pub answer_fails : (r : Option LongAnswer) (a : LongAnswer) → r ≡ Some a → ReadsAnswer r → (IsWitness x a → ⊥)
      → IsLongProof x text → ⊥
  answer_fails r a some reads never p =
      never (same_witness x p.answer a (rw some at (reads p.answer p.printed p.witness)) p.witness)

  -- where it holds, the text is a proof exactly where it is its text
  pub holds_read : (r : Option Verdict) (v : Verdict) → r ≡ Some v → ReadsVerdict r → Verifies x v → HasShortLabels v
      → IsVerdictText x v text ↔ IsProof x text
  holds_read r v some reads verified short = (
    λ printed. record { verdict = v; printed = printed; verified = verified; short = short },
    λ p. same_text x text p.verdict v (rw some at (reads p.verdict p.printed p.verified p.short)) p.printed,
  )

  pub answer_holds_read : (r : Option LongAnswer) (a : LongAnswer) → r ≡ Some a → ReadsAnswer r → IsWitness x a
      → IsLongText x a text ↔ IsLongProof x text
  answer_holds_read r a some reads witness = (
    λ printed. record { answer = a; printed = printed; witness = witness },
    λ p. same_long_text x text p.answer a (rw some at (reads p.answer p.printed p.witness)) p.printed,
  )

-- a test that fails is one of what never holds
pub never_holds : (P : Type 0) → (P → ⊥) → IsTrue false ↔ P
never_holds P never = (λ is. absurd (false≢true is), λ p. absurd (never p))

-- what is tested is tested of what is the same
pub tests_same : (P Q : Type 0) → P ↔ Q → (r : Result Bool OutOfMemory) → IfOk r (λ is. IsTrue is ↔ P)
    → IfOk r (λ is. IsTrue is ↔ Q)
tests_same P Q same r test = IfOk-weaker r _ _
    (λ is says. (λ yes. same.0 (says.0 yes), λ q. says.1 (same.1 q))) test
