-- Lines that hold, one by one.
use Rattle.std.proofs.Common.{◌≡◌, ◌<◌, ◌^◌, ◌++◌, ◌∷◌, [], ℕ, zero, suc, List, inl, inr, arith, ap}
use Rattle.std.proofs.Common.{refl, sym, subst, ◌∙◌, append_assoc, append-nil, codes, decimal, get_or}
use Rattle.std.specs.List.{All}
use Rattle.std.proofs.lemmas.List.{get_or_default}
use Rattle.recording.specs.Execution.{Execution, event_count}
use Rattle.recording.specs.PlaceLaws.{times_at}
use Rattle.recording.specs.Recording.{IsRecording}
use Rattle.verdicts.specs.VerdictText.{labels_line, labels_text}
use Rattle.long.specs.declared.answer.LongAnswer.{LongAnswer}
use Rattle.long.specs.declared.answer.LongAnswer.TheVariants.{Order, Overlook, Cycle}
use Rattle.long.specs.Answer.{IsWitness}
use Rattle.long.specs.Texts.{IsLongText}
use Rattle.verification.specs.Faults.{AreLabelsBegun, IsCycleBegun, IsOneLine, LinesHold, LongLinesHold}
use Rattle.verification.proofs.Lines.{Grows, IsWhole, labels_whole, length_whole, order_whole, overlook_whole}
use Rattle.verification.proofs.Lines.{pair_whole}
use Rattle.verification.proofs.PairsHeld.{pair_short}

module _ (x : Execution) (is : IsRecording x) where
  -- the line of an order or of an overlook is one line
  line_whole : (a : LongAnswer) (line : List ℕ) → IsOneLine a → IsLongText x a line → IsWitness x a → IsWhole line
  line_whole (Order m) line one printed order = subst IsWhole (sym printed) (order_whole m.items short)
    where
      short : All (λ n. n < 2 ^ 64) m.items
      short k d low =
          let in_range : get_or m.items k 0 < event_count x =
          order.total.nothing_else (get_or m.items k 0) (times_at m.items k low) in
          omega (arith, is.within.few_events, in_range, get_or_default m.items k d 0 low)
  line_whole (Overlook l s) line one printed overlooks =
      let few = is.within.few_events in
      let order = overlooks.3 in
      subst IsWhole (sym printed)
      (overlook_whole l s (omega (arith, few, order.1)) (omega (arith, few, order.0, order.1)))
  line_whole (Cycle c) line one printed witness = absurd one

  -- the lines of a cycle
  cycle_grows : (Hold : List ℕ → Type 0) (most : ℕ) → most < 2 ^ 64
      → ((k n : ℕ) (text : List ℕ) → IsCycleBegun x most k n text → Hold text) → (k n : ℕ) (text : List ℕ)
      → IsCycleBegun x most k n text → Grows Hold (suc n) text
  cycle_grows Hold most small holds k zero text b =
      let head : codes "cycle of " ++ decimal k ++ 10 ∷ [] ≡ text =
      sym (b.whole ∙ ap (λ (t : List ℕ). codes "cycle of " ++ decimal k ++ 10 ∷ t) b.lead.0) in
      ([], text, refl, subst IsWhole head (length_whole k (omega (arith, b.few, small))), holds k zero text b, refl)
  cycle_grows Hold most small holds k (suc n) text b =
      let lead = b.lead in
      let head = codes "cycle of " ++ decimal k in
      let short = pair_short x is lead.0 b.last lead.4.reason lead.4.first in (
        head ++ 10 ∷ lead.1,
        lead.2,
        cycle_grows Hold most small holds k n (head ++ 10 ∷ lead.1) (record {
          some = b.some;
          few = b.few;
          within = omega (arith, b.within);
          first = b.first;
          last = lead.0;
          pairs = lead.1;
          lead = lead.3;
          closes = λ all. absurd (omega (arith, all, b.within));
          whole = refl;
        }),
        subst IsWhole (sym lead.4.text)
            (pair_whole lead.0 b.last lead.4.reason (omega (arith, short.0)) (omega (arith, short.1))),
        holds k (suc n) text b,
        b.whole ∙ ap (λ (t : List ℕ). head ++ 10 ∷ t) lead.5 ∙ sym (append_assoc head (10 ∷ lead.1) lead.2),
      )

  -- and of its labels
  labels_grow : (k n : ℕ) (text : List ℕ) → AreLabelsBegun x k n text → (m : ℕ) × Grows (LinesHold x) m text
  labels_grow k zero text a = (
    suc k,
    subst (λ (t : List ℕ). Grows (LinesHold x) (suc k) t) (sym (a.whole ∙ append-nil a.front))
        (cycle_grows (LinesHold x) (event_count x) (omega (arith, is.within.few_events))
        (λ l m t b. inl (inr (inr (l, m, b)))) k k a.front a.pairs),
  )
  labels_grow k (suc n) text a =
      let row = get_or a.rows n [] in
      let before = a.front ++ labels_text a.rows n in
      let h : (m : ℕ) × Grows (LinesHold x) m before = labels_grow k n before (record {
        front = a.front;
        pairs = a.pairs;
        few = omega (arith, a.few);
        rows = a.rows;
        hold = λ v low. a.hold v (omega (arith, low));
        whole = refl;
      }) in (
        suc h.0,
        (
          before,
          labels_line n row,
          h.1,
          labels_whole n row (omega (arith, a.few, is.within.few_events))
              (λ i d inside. omega (arith, (a.hold n (omega arith)).0 i d inside)),
          inr (k, suc n, a),
          a.whole ∙ sym (append_assoc a.front (labels_text a.rows n) (labels_line n row)),
        ),
      )

  -- all lines that hold, of any recording
  pub long_grow : (most : ℕ) → most < 2 ^ 64 → (text : List ℕ) → LongLinesHold x most text
      → (n : ℕ) × Grows (LongLinesHold x most) n text
  long_grow most small text (inl none) = (0, none)
  long_grow most small text (inr (inl line)) = (
    1,
    (
      [],
      text,
      refl,
      line_whole line.proof.answer text line.one line.proof.printed line.proof.witness,
      inr (inl line),
      refl,
    ),
  )
  long_grow most small text (inr (inr b)) = (
    suc b.1,
    cycle_grows (LongLinesHold x most) most small (λ l m t c. inr (inr (l, m, c))) b.0 b.1 text b.2,
  )

  -- and with labels
  pub lines_grow : (text : List ℕ) → LinesHold x text → (n : ℕ) × Grows (LinesHold x) n text
  lines_grow text (inl (inl none)) = (0, none)
  lines_grow text (inl (inr (inl line))) = (
    1,
    (
      [],
      text,
      refl,
      line_whole line.proof.answer text line.one line.proof.printed line.proof.witness,
      inl (inr (inl line)),
      refl,
    ),
  )
  lines_grow text (inl (inr (inr b))) = (
    suc b.1,
    cycle_grows (LinesHold x) (event_count x) (omega (arith, is.within.few_events))
        (λ l m t c. inl (inr (inr (l, m, c)))) b.0 b.1 text b.2,
  )
  lines_grow text (inr labels) = labels_grow labels.0 labels.1 text labels.2
