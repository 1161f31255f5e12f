-- The lines of proofs hold.
use Rattle.std.proofs.Common.{◌≡◌, ◌<◌, ◌≤◌, ◌+◌, ◌-◌, ◌/◌, ◌++◌, ◌∷◌, ℕ, zero, suc, List, inl, inr, arith, ap}
use Rattle.std.proofs.Common.{refl, sym, subst, ◌∙◌, append_assoc, codes, decimal, get_or, length, length-append}
use Rattle.std.proofs.lemmas.List.{get_or_default, get_or_past}
use Rattle.recording.specs.Execution.{Execution, event_count}
use Rattle.recording.specs.Recording.{IsRecording}
use Rattle.relations.specs.Cycle.{IsCertificate, next_in_cycle}
use Rattle.relations.specs.Forced.{Forced}
use Rattle.labels.specs.Certified.{lists_of}
use Rattle.verdicts.specs.declared.verdict.Verdict.{Verdict}
use Rattle.verdicts.specs.declared.verdict.Verdict.TheVariants as verdict
use Rattle.verdicts.specs.VerdictText.{ArePairLines, IsVerdictText, labels_text}
use Rattle.verdicts.specs.Verified.{Verifies}
use Rattle.long.specs.declared.answer.LongAnswer.{LongAnswer}
use Rattle.long.specs.declared.answer.LongAnswer.TheVariants.{Order, Overlook, Cycle}
use Rattle.long.specs.Answer.{IsWitness}
use Rattle.long.specs.Texts.{IsLongText}
use Rattle.long.proofs.Lists.{cycle_some}
use Rattle.verification.specs.FaultLaws.{FaultIsOne, ProofLinesHold}
use Rattle.verification.specs.Faults.{IsCycleBegun, LinesHold, LongLinesHold, PairsLead}
use Rattle.verification.specs.Proof.{HasShortLabels}
use Rattle.verification.proofs.Lines.{fault_one, first_hold}
use Rattle.verification.proofs.LinesGrow.{lines_grow, long_grow}
use Rattle.verification.proofs.VerdictsSpelled.{answer_spelled, verdict_spelled}

-- where the first n pairs of a cycle end
abbrev pair_end : List ℕ → ℕ → ℕ
pair_end c zero = get_or c 0 0
pair_end c (suc n) = next_in_cycle c n

-- at the next event, and those of all pairs at the first
end_inside : (c : List ℕ) (n : ℕ) → n < length c → pair_end c n ≡ get_or c n 0
end_inside c zero low = refl
end_inside c (suc n) low = let next : n + 1 ≡ suc n = omega arith in
    ap (λ (k : ℕ). get_or c k (get_or c 0 0)) next ∙ get_or_default c (suc n) (get_or c 0 0) 0 low

end_closes : (c : List ℕ) (n : ℕ) → 0 < length c → n ≡ length c → pair_end c n ≡ get_or c 0 0
end_closes c zero some all = refl
end_closes c (suc n) some all = get_or_past c (n + 1) (get_or c 0 0) (omega (arith, all))

-- the pairs of a cycle lead from its first event
pairs_lead : (x : Execution) (c : List ℕ) (n : ℕ) (lines : List ℕ) → n ≤ length c → ArePairLines x c n lines
    → PairsLead x (get_or c 0 0) n lines (pair_end c n)
pairs_lead x c zero lines within h = (h, refl)
pairs_lead x c (suc n) lines within h = (
  get_or c n 0,
  h.0,
  h.1,
  subst (PairsLead x (get_or c 0 0) n h.0) (end_inside c n (omega (arith, within)))
      (pairs_lead x c n h.0 (omega (arith, within)) h.2),
  h.3,
  h.4,
)

-- they are the lines of a cycle
cycle_begun : (x : Execution) (most : ℕ) (c pairs : List ℕ) → 0 < length c → length c ≤ most
    → ArePairLines x c (length c) pairs
    → IsCycleBegun x most (length c) (length c) (codes "cycle of " ++ decimal (length c) ++ 10 ∷ pairs)
cycle_begun x most c pairs some few lines = record {
  some = some;
  few = few;
  within = omega arith;
  first = get_or c 0 0;
  last = pair_end c (length c);
  pairs = pairs;
  lead = pairs_lead x c (length c) pairs (omega arith) lines;
  closes = λ all. end_closes c (length c) some refl;
  whole = refl;
}

module _ (x : Execution) (is : IsRecording x) where
  -- a whole proof
  proof_holds : event_count x ≤ 512 → (text : List ℕ) (v : Verdict) → IsVerdictText x v text → Verifies x v
      → HasShortLabels v → LinesHold x text
  proof_holds few text (verdict.Ordered m) printed verified short = inl (inr (inl (record {
    proof = record { answer = Order m; printed = printed; witness = verified };
    one = tt;
  })))
  proof_holds few text (verdict.Overlook l s) printed verified short = inl (inr (inl (record {
    proof = record { answer = Overlook l s; printed = printed; witness = verified };
    one = tt;
  })))
  proof_holds few text (verdict.Cycle c) printed verified short =
      let cycle = c.cycle.items in
      let rows = lists_of c.rows.items in
      let certified : IsCertificate (Forced x) (event_count x) cycle rows = verified in
      let sizes : length cycle ≤ event_count x =
      (verdict_spelled x is (verdict.Cycle c) text few printed verified short).sizes in
      let head = codes "cycle of " ++ decimal (length cycle) in
      inr (
        length cycle,
        length rows,
        record {
          front = head ++ 10 ∷ printed.pairs;
          pairs = cycle_begun x (event_count x) cycle printed.pairs (cycle_some (Forced x) cycle certified.cyclic) sizes
              printed.lines;
          few = omega (arith, certified.one_each);
          rows = rows;
          hold = λ v low. (short v, certified.labellings v (omega (arith, low, certified.one_each)));
          whole = printed.whole ∙ sym (append_assoc head (10 ∷ printed.pairs) (labels_text rows (length rows)));
        },
      )

  long_proof_holds : (text : List ℕ) (a : LongAnswer) → IsLongText x a text → IsWitness x a
      → LongLinesHold x (length text - 9) text
  long_proof_holds text (Order m) printed witness = inr (inl (record {
    proof = record { answer = Order m; printed = printed; witness = witness };
    one = tt;
  }))
  long_proof_holds text (Overlook l s) printed witness = inr (inl (record {
    proof = record { answer = Overlook l s; printed = printed; witness = witness };
    one = tt;
  }))
  long_proof_holds text (Cycle c) printed witness =
      let cycle = c.items in
      let head = codes "cycle of " ++ decimal (length cycle) in
      let sizes : length cycle ≤ length text / 8 = (answer_spelled x is (Cycle c) text printed witness).sizes in
      let size : length text ≡ length head + length (10 ∷ printed.pairs) =
      ap (λ (t : List ℕ). length t) printed.whole ∙ length-append head (10 ∷ printed.pairs) in
      let few : length cycle ≤ length text - 9 =
      omega (arith, sizes, size, length-append (codes "cycle of ") (decimal (length cycle))) in
      inr (inr (
        length cycle,
        length cycle,
        subst (IsCycleBegun x (length text - 9) (length cycle) (length cycle))
            (sym printed.whole) (cycle_begun x (length text - 9) cycle printed.pairs
            (cycle_some (Forced x) cycle witness) few printed.lines),
      ))

-- so do its first lines
pub lines_hold : ProofLinesHold
lines_hold = record {
  labelled = λ x text is few proof.
      first_hold (LinesHold x) (inl (inl refl)) (lines_grow x is) text
      (proof_holds x is few text proof.verdict proof.printed proof.verified proof.short);
  unlabelled = λ x text is small proof.
      first_hold (LongLinesHold x (length text - 9)) (inl refl)
      (long_grow x is (length text - 9) (omega (arith, small))) text
      (long_proof_holds x is text proof.answer proof.printed proof.witness);
}

-- and one line is the first at fault
pub one_fault : FaultIsOne
one_fault = record {
  labelled = λ x text f g is. fault_one (LinesHold x) (inl (inl refl)) (lines_grow x is) text f g;
  unlabelled = λ x text f g is small.
      fault_one (LongLinesHold x (length text - 9)) (inl refl)
      (long_grow x is (length text - 9) (omega (arith, small))) text f g;
}
