-- All lines of a text that hold, and which lines those are.
use Rattle.std.proofs.Common.{◌≡◌, ◌⊎◌, ◌++◌, ◌∷◌, [], ℕ, List, Some, inl, inr, arith, ap}
use Rattle.std.proofs.Common.{refl, sym, subst, ◌∙◌, append_assoc, append-nil, codes, decimal, get_or, length}
use Rattle.std.specs.Prelude.{None, Option}
use Rattle.recording.specs.Execution.{Execution, event_count}
use Rattle.recording.specs.Recording.{IsRecording}
use Rattle.verdicts.specs.VerdictText.{labels_text}
use Rattle.long.specs.declared.answer.LongAnswer.{LongAnswer}
use Rattle.long.specs.declared.answer.LongAnswer.TheVariants.{Order, Overlook, Cycle}
use Rattle.long.specs.Texts.{IsLongText}
use Rattle.verification.specs.Faults.{AreLabelsBegun, IsCycleBegun, IsOneLine, IsRowThatHolds, LinesHold}
use Rattle.verification.specs.Faults.{LongLinesHold}
use Rattle.verification.specs.Held.{IsCycleHeld, IsLineOrNone, IsMost, PutsRows}
use Rattle.verification.specs.Spelled.{Spells, label_numbers}
use Rattle.verification.proofs.AnswersSpelled.{one_byte}
use Rattle.verification.proofs.Spelling.{some_is, spells_after, spells_rows}

-- a cycle is no line of an order or of an overlook
no_line : (x : Execution) (a : LongAnswer) (rest line more : List ℕ) → IsOneLine a → IsLongText x a line
    → codes "cycle of " ++ rest ≡ line ++ more → ⊥
no_line x (Order m) rest line more one printed is =
    let other : 99 ≡ 111 = one_byte _ _ 0 (is ∙ ap (λ (t : List ℕ). t ++ more) printed) in omega (arith, other)
no_line x (Overlook l s) rest line more one printed is =
    let other : 99 ≡ 111 = one_byte _ _ 0 (is ∙ ap (λ (t : List ℕ). t ++ more) printed) in omega (arith, other)
no_line x (Cycle c) rest line more one printed is = absurd one

-- nor does a text hold lines of a cycle that begins otherwise
no_cycle_in : (x : Execution) (most k n : ℕ) (text lines more : List ℕ) → text ≡ lines ++ more
    → IsCycleBegun x most k n lines → (rest : List ℕ) × (text ≡ codes "cycle of " ++ rest)
no_cycle_in x most k n text lines more is b = (
  (decimal k ++ 10 ∷ b.pairs) ++ more,
  is ∙ ap (λ (t : List ℕ). t ++ more) (b.whole ∙ append_assoc (codes "cycle of ") (decimal k) (10 ∷ b.pairs))
      ∙ append_assoc (codes "cycle of ") (decimal k ++ 10 ∷ b.pairs) more,
)

-- the lines of a cycle without labels
pub long_cycle_most : (x : Execution) (most : ℕ) (rest new left : List ℕ) (size : Option ℕ)
    → IsCycleHeld x most (codes "cycle of " ++ rest) [] new left size
    → IsMost (LongLinesHold x most) (codes "cycle of " ++ rest) new
long_cycle_most x most rest new left size held = record { holds = holds held.holds; most = longest }
  where
    holds : (held.part ≡ []) ⊎ ((k n : ℕ) × IsCycleBegun x most k n held.part) → LongLinesHold x most new
    holds (inl none) = inl (held.added ∙ none)
    holds (inr b) = inr (inr (b.0, b.1, subst (IsCycleBegun x most b.0 b.1) (sym held.added) b.2))

    longest : (lines more : List ℕ) → codes "cycle of " ++ rest ≡ lines ++ more → LongLinesHold x most lines
        → (back : List ℕ) × (new ≡ lines ++ back)
    longest lines more is (inl none) = (new, ap (λ (t : List ℕ). t ++ new) (sym none))
    longest lines more is (inr (inl line)) =
        absurd (no_line x line.proof.answer rest lines more line.one line.proof.printed is)
    longest lines more is (inr (inr b)) =
        let h = held.longest b.0 b.1 lines more b.2 is in (h.0, held.added ∙ h.1)

-- where not all pairs hold, no labels do
pub pairs_most : (x : Execution) (rest new left : List ℕ)
    → IsCycleHeld x (event_count x) (codes "cycle of " ++ rest) [] new left None
    → IsMost (LinesHold x) (codes "cycle of " ++ rest) new
pairs_most x rest new left held =
    let m = long_cycle_most x (event_count x) rest new left None held in
    record { holds = inl m.holds; most = longest m }
  where
    no_some : (k : ℕ) → None ≡ Some k → ⊥
    no_some k is = absurd cc

    longest : IsMost (LongLinesHold x (event_count x)) (codes "cycle of " ++ rest) new → (lines more : List ℕ)
        → codes "cycle of " ++ rest ≡ lines ++ more → LinesHold x lines → (back : List ℕ) × (new ≡ lines ++ back)
    longest m lines more is (inl long) = m.most lines more is long
    longest m lines more is (inr labels) =
        let a = labels.2 in
        absurd (no_some labels.0 (held.full labels.0 a.front (labels_text a.rows labels.1 ++ more) a.pairs
        (is ∙ ap (λ (t : List ℕ). t ++ more) a.whole ∙ append_assoc a.front (labels_text a.rows labels.1) more)).0)

-- the lines of a cycle and of its labels
pub labels_most : (x : Execution) (is : IsRecording x) (rest mid new left : List ℕ) (size : ℕ)
    → IsCycleHeld x (event_count x) (codes "cycle of " ++ rest) [] mid left (Some size)
    → PutsRows x size left mid new → IsMost (LinesHold x) (codes "cycle of " ++ rest) new
labels_most x is rest mid new left size held puts = record { holds = holds; most = longest }
  where
    added : new ≡ held.part ++ labels_text puts.0 (length puts.0)
    added = puts.2 ∙ ap (λ (t : List ℕ). t ++ labels_text puts.0 (length puts.0)) held.added

    holds : LinesHold x new
    holds = inr (
      size,
      length puts.0,
      record {
        front = held.part;
        pairs = held.whole size refl;
        few = puts.1.few;
        rows = puts.0;
        hold = puts.1.hold;
        whole = added;
      },
    )

    spelled : (n : ℕ) (lines more : List ℕ) (k : ℕ) → (a : AreLabelsBegun x k n lines)
        → Spells (label_numbers a.rows n) (labels_text a.rows n ++ more)
    spelled n lines more k a =
        subst (λ (ns : List ℕ). Spells ns (labels_text a.rows n ++ more)) (append-nil (label_numbers a.rows n))
        (spells_rows a.rows n more [] (omega (arith, a.few, is.within.few_events))
        (λ v low i d inside. omega (arith, (a.hold v low).0 i d inside)) tt)

    longest : (lines more : List ℕ) → codes "cycle of " ++ rest ≡ lines ++ more → LinesHold x lines
        → (back : List ℕ) × (new ≡ lines ++ back)
    longest lines more begins (inl long) =
        let m = (long_cycle_most x (event_count x) rest mid left (Some size) held).most lines more begins long in (
          m.0 ++ labels_text puts.0 (length puts.0),
          puts.2 ∙ ap (λ (t : List ℕ). t ++ labels_text puts.0 (length puts.0)) m.1
              ∙ append_assoc lines m.0 (labels_text puts.0 (length puts.0)),
        )
    longest lines more begins (inr labels) =
        let k = labels.0 in
        let n = labels.1 in
        let a = labels.2 in
        let full = held.full k a.front (labels_text a.rows n ++ more) a.pairs
        (begins ∙ ap (λ (t : List ℕ). t ++ more) a.whole ∙ append_assoc a.front (labels_text a.rows n) more) in
        let same : size ≡ k = some_is size k full.0 in
        let gap = full.2.0 in
        let rows = puts.1.most a.rows n a.few
        (λ v low. subst (λ (c : ℕ). IsRowThatHolds x c v (get_or a.rows v [])) (sym same) (a.hold v low))
        (subst (Spells (label_numbers a.rows n)) (sym full.2.2)
        (spells_after gap (labels_text a.rows n ++ more) (label_numbers a.rows n) full.2.1
        (spelled n lines more k a))) in (
          rows.0,
          added ∙ ap (λ (t : List ℕ). t ++ labels_text puts.0 (length puts.0)) full.1
              ∙ ap (λ (t : List ℕ). a.front ++ t) rows.1
              ∙ sym (append_assoc a.front (labels_text a.rows n) rows.0)
              ∙ ap (λ (t : List ℕ). t ++ rows.0) (sym a.whole),
        )

-- the line of an order or of an overlook, of a text that begins otherwise than a cycle
pub long_line_most : (x : Execution) (most : ℕ) (text line : List ℕ)
    → ((rest : List ℕ) → text ≡ codes "cycle of " ++ rest → ⊥) → IsMost (IsLineOrNone x) text line
    → IsMost (LongLinesHold x most) text line
long_line_most x most text line never held = record { holds = holds held.holds; most = longest }
  where
    holds : IsLineOrNone x line → LongLinesHold x most line
    holds (inl none) = inl none
    holds (inr one) = inr (inl one)

    longest : (lines more : List ℕ) → text ≡ lines ++ more → LongLinesHold x most lines
        → (back : List ℕ) × (line ≡ lines ++ back)
    longest lines more is (inl none) = held.most lines more is (inl none)
    longest lines more is (inr (inl one)) = held.most lines more is (inr one)
    longest lines more is (inr (inr b)) =
        let c = no_cycle_in x most b.0 b.1 text lines more is b.2 in absurd (never c.0 c.1)

pub line_most : (x : Execution) (text line : List ℕ) → ((rest : List ℕ) → text ≡ codes "cycle of " ++ rest → ⊥)
    → IsMost (IsLineOrNone x) text line → IsMost (LinesHold x) text line
line_most x text line never held =
    let m = long_line_most x (event_count x) text line never held in record { holds = inl m.holds; most = longest m }
  where
    longest : IsMost (LongLinesHold x (event_count x)) text line → (lines more : List ℕ) → text ≡ lines ++ more
        → LinesHold x lines → (back : List ℕ) × (line ≡ lines ++ back)
    longest m lines more is (inl long) = m.most lines more is long
    longest m lines more is (inr labels) =
        let a = labels.2 in
        let c = no_cycle_in x (event_count x) labels.0 labels.0 text a.front (labels_text a.rows labels.1 ++ more)
        (is ∙ ap (λ (t : List ℕ). t ++ more) a.whole ∙ append_assoc a.front (labels_text a.rows labels.1) more)
        a.pairs in
        absurd (never c.0 c.1)

-- the lines of a cycle, of what is the same
pub held_as : (x y : Execution) (most n : ℕ) (text old new left : List ℕ) (r q : Option ℕ) → x ≡ y → most ≡ n
    → old ≡ [] → r ≡ q → IsCycleHeld x most text old new left r → IsCycleHeld y n text [] new left q
held_as x y most n text old new left r q execution size none given held =
    subst (λ (z : Execution). IsCycleHeld z n text [] new left q) execution
    (subst (λ (m : ℕ). IsCycleHeld x m text [] new left q) size
    (subst (λ (o : List ℕ). IsCycleHeld x most text o new left q) none
    (subst (IsCycleHeld x most text old new left) given held)))
