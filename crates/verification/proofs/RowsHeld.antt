-- The rows of labels that hold.
use Rattle.std.proofs.Common.{◌≡◌, ◌<◌, ◌≤◌, ◌+◌, ◌++◌, ◌∷◌, [], ℕ, zero, suc, List, inl, inr, arith, ap, refl}
use Rattle.std.proofs.Common.{sym, subst, ◌∙◌, append_assoc, append-nil, get_or, length, length-append}
use Rattle.std.proofs.lemmas.Bool.{cases_lt}
use Rattle.std.proofs.lemmas.List.{get_or_append_left}
use Rattle.std.proofs.Math.Seq.{get_or-append_seam}
use Rattle.recording.specs.Execution.{Execution, event_count}
use Rattle.relations.specs.Cycle.{IsLabelling}
use Rattle.verdicts.specs.VerdictText.{labels_line, labels_text}
use Rattle.verification.specs.Faults.{IsRowThatHolds}
use Rattle.verification.specs.Held.{AreRowsHeld}
use Rattle.verification.specs.Spelled.{Spells, label_numbers}
use Rattle.verification.proofs.LabelNumbers.{row_next}

-- labels by one of two relations with the same pairs
pub labelling_agrees : (R S : ℕ → ℕ → Type 0) (k n m v : ℕ) (labels same : List ℕ) → ((e f : ℕ) → S e f → R e f)
    → n ≡ m → labels ≡ same → IsLabelling R k n v labels → IsLabelling S k m v same
labelling_agrees R S k n m v labels same pairs size is labelling =
    subst (λ (c : ℕ). IsLabelling S k c v same) size (subst (λ (ls : List ℕ). IsLabelling S k n v ls) is record {
      one_each = labelling.one_each;
      start = labelling.start;
      grows = λ e f pair. labelling.grows e f (pairs e f pair);
      closes = λ e pair. labelling.closes e (pairs e v pair);
    })

-- rows that are the same have the same lines
same_lines : (rows others : List (List ℕ)) (n : ℕ) → ((u : ℕ) → u < n → get_or rows u [] ≡ get_or others u [])
    → labels_text rows n ≡ labels_text others n
same_lines rows others zero same = refl
same_lines rows others (suc n) same =
    ap (λ (t : List ℕ). t ++ labels_line n (get_or rows n []))
    (same_lines rows others n (λ u low. same u (omega (arith, low))))
    ∙ ap (λ (r : List ℕ). labels_text others n ++ labels_line n r) (same n (omega arith))

-- the lines of more rows begin with those of fewer
more_lines : (rows : List (List ℕ)) (n m : ℕ) → n ≤ m
    → (rest : List ℕ) × (labels_text rows m ≡ labels_text rows n ++ rest)
more_lines rows n zero low = let none : n ≡ 0 = omega (arith, low) in
    ([], ap (λ (k : ℕ). labels_text rows k) (sym none) ∙ sym (append-nil (labels_text rows n)))
more_lines rows n (suc m) low = elim (cases_lt m n) [
  | inl last ↦ let same : suc m ≡ n = omega (arith, low, last) in
      ([], ap (λ (k : ℕ). labels_text rows k) same ∙ sym (append-nil (labels_text rows n)))
  | inr not ↦ let h : (rest : List ℕ) × (labels_text rows m ≡ labels_text rows n ++ rest) = more_lines rows n m not in
      let line = labels_line m (get_or rows m []) in
      (h.0 ++ line, ap (λ (t : List ℕ). t ++ line) h.1 ∙ append_assoc (labels_text rows n) h.0 line)
]

-- how other rows that hold stand to those that were read: the first are the same, and the numbers of more are left
pub record AreSame (rows others : List (List ℕ)) (n v : ℕ) (left : List ℕ) : Type 0 where
  pub same : (u : ℕ) → u < n → u < v → get_or rows u [] ≡ get_or others u []
  pub more : v ≤ n → (tail : List ℕ) × (label_numbers others n ≡ label_numbers others v ++ tail) × Spells tail left

-- v rows that hold were read
pub record RowsGo (x : Execution) (size : ℕ) (text : List ℕ) (rows : List (List ℕ)) (v : ℕ) (left : List ℕ)
    : Type 0 where
  pub count : length rows ≡ v
  pub hold : (u : ℕ) → u < length rows → IsRowThatHolds x size u (get_or rows u [])
  pub follow : (others : List (List ℕ)) (n : ℕ) → n ≤ event_count x
      → ((u : ℕ) → u < n → IsRowThatHolds x size u (get_or others u [])) → Spells (label_numbers others n) text
      → AreSame rows others n v left

-- before the first row
pub first_row : (x : Execution) (size : ℕ) (text : List ℕ) → RowsGo x size text [] 0 text
first_row x size text = record {
  count = refl;
  hold = λ u low. absurd (omega (arith, low));
  follow = λ others n few hold spelled. record {
    same = λ u inside low. absurd (omega (arith, low));
    more = λ all. (label_numbers others n, refl, spelled);
  };
}

-- where no row goes on, all that hold were read
pub rows_end : (x : Execution) (size : ℕ) (text : List ℕ) (rows : List (List ℕ)) (v : ℕ) (left : List ℕ)
    → v ≤ event_count x → RowsGo x size text rows v left
    → ((labels later : List ℕ) → v < event_count x → IsRowThatHolds x size v labels
    → Spells ((v ∷ labels) ++ later) left → ⊥)
    → AreRowsHeld x size text rows
rows_end x size text rows v left few go never = record {
  few = omega (arith, few, go.count);
  hold = go.hold;
  most = λ others n fits hold spelled.
      let s = go.follow others n fits hold spelled in
      let past : n ≤ v = read others n fits hold s in
      let all : n ≤ length rows = omega (arith, past, go.count) in
      let longer : (rest : List ℕ) × (labels_text rows (length rows) ≡ labels_text rows n ++ rest) =
      more_lines rows n (length rows) all in (
        longer.0,
        longer.1 ∙ ap (λ (t : List ℕ). t ++ longer.0)
            (same_lines rows others n (λ u low. s.same u low (omega (arith, low, past)))),
      );
}
  where
    read : (others : List (List ℕ)) (n : ℕ) → n ≤ event_count x
        → ((u : ℕ) → u < n → IsRowThatHolds x size u (get_or others u [])) → AreSame rows others n v left → n ≤ v
    read others n fits hold s = elim (cases_lt v n) [
      | inl more ↦
          let tail : (tail : List ℕ) × (label_numbers others n ≡ label_numbers others v ++ tail) × Spells tail left =
          s.more (omega (arith, more)) in
          let next = row_next others n v tail.0 left more tail.1 tail.2 in
          absurd (never (get_or others v []) next.0 (omega (arith, more, fits)) (hold v more) next.1)
      | inr past ↦ past
    ]

-- one row more
pub row_more : (x : Execution) (size : ℕ) (text : List ℕ) (rows longer : List (List ℕ)) (v : ℕ) (left back row : List ℕ)
    → RowsGo x size text rows v left → IsRowThatHolds x size v row → longer ≡ rows ++ row ∷ []
    → ((labels later : List ℕ) → IsRowThatHolds x size v labels → Spells ((v ∷ labels) ++ later) left
    → (row ≡ labels) × Spells later back)
    → RowsGo x size text longer (v + 1) back
row_more x size text rows longer v left back row go holds is reads = record {
  count = ap (λ (t : List (List ℕ)). length t) is ∙ length-append rows (row ∷ [])
      ∙ ap (λ (n : ℕ). n + 1) go.count;
  hold = λ u low. elim (cases_lt u v) [
    | inl before ↦ subst (λ (r : List ℕ). IsRowThatHolds x size u r) (sym (old u before))
        (go.hold u (omega (arith, before, go.count)))
    | inr not ↦
        let here : v ≡ u = omega (
          arith,
          not,
          low,
          ap (λ (t : List (List ℕ)). length t) is,
          length-append rows (row ∷ []),
          go.count,
        ) in
        subst (λ (w : ℕ). IsRowThatHolds x size w (get_or longer w [])) here
        (subst (λ (r : List ℕ). IsRowThatHolds x size v r) (sym last) holds)
  ];
  follow = λ others n few hold spelled. let s = go.follow others n few hold spelled in record {
    same = λ u inside low. elim (cases_lt u v) [
      | inl before ↦ old u before ∙ s.same u inside before
      | inr not ↦
          let here : v ≡ u = omega (arith, not, low) in
          let in_range : v < n = omega (arith, here, inside) in
          subst (λ (w : ℕ). get_or longer w [] ≡ get_or others w []) here
          (last ∙ (next others n few hold s in_range).2)
    ];
    more = λ more. let h = next others n few hold s (omega (arith, more)) in (h.0, h.1, h.3);
  };
}
  where
    old : (u : ℕ) → u < v → get_or longer u [] ≡ get_or rows u []
    old u before = ap (λ (t : List (List ℕ)). get_or t u []) is
        ∙ get_or_append_left rows (row ∷ []) [] u (omega (arith, before, go.count))

    last : get_or longer v [] ≡ row
    last = ap (λ (t : List (List ℕ)). get_or t v []) is
        ∙ ap (λ (k : ℕ). get_or (rows ++ row ∷ []) k []) (sym go.count)
        ∙ get_or-append_seam rows row [] []

    next : (others : List (List ℕ)) (n : ℕ) → n ≤ event_count x
        → ((u : ℕ) → u < n → IsRowThatHolds x size u (get_or others u [])) → AreSame rows others n v left → v < n
        → (tail : List ℕ) × (label_numbers others n ≡ label_numbers others (v + 1) ++ tail)
        × (row ≡ get_or others v []) × Spells tail back
    next others n few hold s low =
        let tail : (tail : List ℕ) × (label_numbers others n ≡ label_numbers others v ++ tail) × Spells tail left =
        s.more (omega (arith, low)) in
        let h = row_next others n v tail.0 left low tail.1 tail.2 in
        let read = reads (get_or others v []) h.0 (hold v low) h.1 in
        (h.0, h.2, read.0, read.1)
