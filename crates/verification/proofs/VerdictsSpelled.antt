-- What the texts of verdicts and answers that hold spell.
use Rattle.std.proofs.Common.{◌≡◌, ◌<◌, ◌≤◌, ◌^◌, ◌+◌, ◌*◌, ◌/◌, ◌++◌, ◌∷◌, ℕ, List, [], zero, suc, inl, inr, Vec}
use Rattle.std.proofs.Common.{Global, arith, ap, refl, sym, subst, ◌∙◌, append_assoc, append-nil, codes, decimal}
use Rattle.std.proofs.Common.{get_or, length, length-append}
use Rattle.std.specs.List.{All}
use Rattle.std.proofs.lemmas.Bool.{cases_lt}
use Rattle.std.proofs.lemmas.List.{get_or_default, get_or_past}
use Rattle.recording.specs.EnumerationLaws.{length_total}
use Rattle.recording.specs.Execution.{Execution, event_count}
use Rattle.recording.specs.PlaceLaws.{times_at}
use Rattle.recording.specs.Recording.{IsRecording}
use Rattle.recording.specs.Tso.{IsTsoOrder}
use Rattle.relations.specs.declared.reason.Reason.{Reason}
use Rattle.relations.specs.declared.reason.Reason.TheVariants.{Po, Wo, Rf, Fr}
use Rattle.relations.specs.Cycle.{IsCertificate, IsCycle, Leads, next_in_cycle}
use Rattle.relations.specs.CycleLaws.{short_cycle}
use Rattle.relations.specs.Forced.{Forced, Overlooks}
use Rattle.relations.specs.ForcedLaws.{forced_within}
use Rattle.labels.specs.Certified.{lists_of}
use Rattle.labels.proofs.CertificateLemmas.{certificates_are_shortest}
use Rattle.texts.specs.Numbers.{numbers_text}
use Rattle.verdicts.specs.declared.verdict.Verdict.{Verdict}
use Rattle.verdicts.specs.declared.verdict.Verdict.TheVariants as verdict
use Rattle.verdicts.specs.VerdictText.{ArePairLines, IsVerdictText, labels_text, order_line, overlook_line, pair_line}
use Rattle.verdicts.specs.VerdictText.{reason_name}
use Rattle.verdicts.specs.Verified.{Verifies}
use Rattle.long.specs.declared.answer.LongAnswer.{LongAnswer}
use Rattle.long.specs.declared.answer.LongAnswer.TheVariants.{Order, Overlook, Cycle}
use Rattle.long.specs.Answer.{IsWitness, without_labels}
use Rattle.long.specs.Texts.{IsLongText}
use Rattle.verification.specs.Proof.{HasShortLabels}
use Rattle.verification.specs.Spelled.{HasRows, HasSizes, Spells, SpellsAnswer, label_numbers, labels_after}
use Rattle.verification.specs.Spelled.{pair_numbers}
use Rattle.verification.proofs.Spelling.{spells_after, spells_number, spells_pairs, spells_row}
use Rattle.verification.proofs.Spelling.{spells_rows}

-- what a relation of numbers below n leads along is below n
leads_below : (R : ℕ → ℕ → Type 0) (n : ℕ) → ((e f : ℕ) → R e f → (e < n) × (f < n))
    → (e : ℕ) (es : List ℕ) (back : ℕ) → Leads R e es back → (k d : ℕ) → k < length (e ∷ es) → get_or (e ∷ es) k d < n
leads_below R n within e [] back leads zero d low = (within e back leads).0
leads_below R n within e [] back leads (suc k) d low = absurd (omega (arith, low))
leads_below R n within e (f ∷ fs) back leads zero d low = (within e f leads.0).0
leads_below R n within e (f ∷ fs) back leads (suc k) d low =
    leads_below R n within f fs back leads.1 k d (omega (arith, low))

-- the numbers of a cycle of numbers below n are short
cycle_short : (R : ℕ → ℕ → Type 0) (n : ℕ) → n ≤ 16777216 → ((e f : ℕ) → R e f → (e < n) × (f < n)) → (c : List ℕ)
    → IsCycle R c → (i : ℕ) → i < length c → (get_or c i 0 < 2 ^ 32) × (next_in_cycle c i < 2 ^ 32)
cycle_short R n few within [] cyclic i low = absurd cyclic
cycle_short R n few within (e ∷ es) cyclic i low =
    let all = leads_below R n within e es e cyclic in (
      omega (arith, few, all i 0 low),
      elim (cases_lt (i + 1) (length (e ∷ es))) [
        | inl inside ↦ omega (arith, few, all (i + 1) e inside)
        | inr not ↦ omega (arith, few, all 0 0 (omega arith), get_or_past (e ∷ es) (i + 1) e not)
      ],
    )

-- what the text of a cycle spells, with what stands after its pairs
cycle_spells : (x : Execution) (few : event_count x ≤ 16777216)
    (within : (e f : ℕ) → Forced x e f → (e < event_count x) × (f < event_count x))
    (c : Vec ℕ Global) (pairs last ms : List ℕ) → IsCycle (Forced x) c.items
    → ArePairLines x c.items (length c.items) pairs → Spells ms last
    → SpellsAnswer (Cycle c) ms (codes "cycle of " ++ decimal (length c.items) ++ 10 ∷ (pairs ++ last))
cycle_spells x few within c pairs last ms cyclic lines h = (
  pairs ++ last,
  spells_after (10 ∷ []) (pairs ++ last) (pair_numbers c.items (length c.items) ++ ms) refl
      (spells_pairs x c.items (length c.items) pairs last ms
      (cycle_short (Forced x) (event_count x) few within c.items cyclic) lines h),
  append_assoc (codes "cycle of ") (decimal (length c.items)) (10 ∷ (pairs ++ last)),
)

-- rows with nothing after them
all_rows : (rows : List (List ℕ)) (n : ℕ) → Spells (label_numbers rows n ++ []) (labels_text rows n ++ [])
    → Spells (label_numbers rows n) (labels_text rows n)
all_rows rows n h = subst (λ (ns : List ℕ). Spells ns (labels_text rows n)) (append-nil (label_numbers rows n))
    (subst (Spells (label_numbers rows n ++ [])) (append-nil (labels_text rows n)) h)

module _ (x : Execution) (is : IsRecording x) where
  -- forced pairs are pairs of events
  within : (e f : ℕ) → Forced x e f → (e < event_count x) × (f < event_count x)
  within e f forced = forced_within x is.well_formed forced.0 e f forced.1

  -- the line of an order, before another text
  pub order_spells : (m : Vec ℕ Global) (more : List ℕ) → IsTsoOrder x m.items
      → SpellsAnswer (Order m) [] (order_line m.items ++ more)
  order_spells m more order = (
    numbers_text m.items ++ 10 ∷ more,
    spells_row m.items more [] short tt,
    append_assoc (codes "ordered:" ++ numbers_text m.items) (10 ∷ []) more
        ∙ append_assoc (codes "ordered:") (numbers_text m.items) (10 ∷ more),
  )
    where
      short : All (λ n. n < 2 ^ 32) m.items
      short k d low =
          let in_range : get_or m.items k 0 < event_count x =
          order.total.nothing_else (get_or m.items k 0) (times_at m.items k low) in
          omega (arith, is.within.few_events, in_range, get_or_default m.items k d 0 low)

  -- the line of an overlook
  pub overlook_spells : (l s : ℕ) (more : List ℕ) → Overlooks x l s
      → SpellsAnswer (Overlook l s) [] (overlook_line l s ++ more)
  overlook_spells l s more overlooks =
      let few = is.within.few_events in
      let order = overlooks.3 in (
        decimal l ++ (codes " store " ++ (decimal s ++ 10 ∷ more)),
        spells_number l 32 (codes "store " ++ (decimal s ++ 10 ∷ more)) (s ∷ []) (omega (arith, few, order.1)) refl
            (spells_after (codes " store ") (decimal s ++ 10 ∷ more) (s ∷ []) refl
            (spells_number s 10 more [] (omega (arith, few, order.0, order.1)) refl tt)),
        shape (codes "overlook: load ") (decimal l) (codes " store ") (decimal s) (10 ∷ []) more,
      )
    where
      shape : (a b c d e f : List ℕ) → (a ++ b ++ c ++ d ++ e) ++ f ≡ a ++ (b ++ (c ++ (d ++ (e ++ f))))
      shape a b c d e f = simp append_assoc

  -- what the text of a verdict that holds spells
  pub record IsSpelled (v : Verdict) (text : List ℕ) : Type 0 where
    pub spelled : SpellsAnswer (without_labels v) (labels_after v) text
    pub sizes : HasSizes (event_count x) (event_count x) (without_labels v)
    pub rows : HasRows (event_count x) v

  pub verdict_spelled : (v : Verdict) (text : List ℕ) → event_count x ≤ 512 → IsVerdictText x v text → Verifies x v
      → HasShortLabels v → IsSpelled v text
  verdict_spelled (verdict.Ordered m) text few printed verified short = record {
    spelled = subst (SpellsAnswer (Order m) []) (append-nil (order_line m.items) ∙ sym printed)
        (order_spells m [] verified);
    sizes = length_total (event_count x) m.items verified.total;
    rows = tt;
  }
  verdict_spelled (verdict.Overlook l s) text few printed verified short = record {
    spelled = subst (SpellsAnswer (Overlook l s) []) (append-nil (overlook_line l s) ∙ sym printed)
        (overlook_spells l s [] verified);
    sizes = tt;
    rows = tt;
  }
  verdict_spelled (verdict.Cycle c) text few printed verified short =
      let n = event_count x in
      let rows = lists_of c.rows.items in
      let certified : IsCertificate (Forced x) n c.cycle.items rows = verified in
      let other : (d : List ℕ) × IsCycle (Forced x) d × (length d ≤ n) =
      short_cycle (Forced x) n within c.cycle.items certified.cyclic in record {
        spelled = subst (SpellsAnswer (Cycle c.cycle) (label_numbers rows (length rows))) (sym printed.whole)
            (cycle_spells x is.within.few_events within c.cycle printed.pairs (labels_text rows (length rows))
            (label_numbers rows (length rows)) certified.cyclic printed.lines
            (all_rows rows (length rows) (spells_rows rows (length rows) [] [] (omega (arith, few, certified.one_each))
            (λ v low k d inside. omega (arith, short v k d inside)) tt)));
        sizes = omega (
          arith,
          other.2,
          (certificates_are_shortest (Forced x) n c.cycle.items rows within certified).shortest other.0 other.1,
        );
        rows = record {
          size = certified.one_each;
          rows_are = λ v low. record { size = (certified.labellings v low).one_each; short = short v };
        };
      }

  -- the line of a pair has eight bytes
  line_size : (e f : ℕ) (r : Reason) → 8 ≤ length (pair_line e f r)
  line_size e f r = omega (
    arith,
    length-append (decimal e ++ codes " -> " ++ decimal f) (32 ∷ (reason_name r ++ 10 ∷ [])),
    length-append (decimal e ++ codes " -> ") (decimal f),
    length-append (decimal e) (codes " -> "),
    length-append (reason_name r) (10 ∷ []),
    name r,
  )
    where
      name : (r : Reason) → length (reason_name r) ≡ 2
      name Po = refl
      name Wo = refl
      name Rf = refl
      name Fr = refl

  lines_size : (c : List ℕ) (n : ℕ) (lines : List ℕ) → ArePairLines x c n lines → 8 * n ≤ length lines
  lines_size c zero lines h = omega arith
  lines_size c (suc n) lines h = omega (
    arith,
    lines_size c n h.0 h.2,
    ap (λ (t : List ℕ). length t) h.4,
    length-append h.0 h.1,
    ap (λ (t : List ℕ). length t) h.3.text,
    line_size (get_or c n 0) (next_in_cycle c n) h.3.reason,
  )

  -- what the text of an answer that holds spells
  pub record IsLongSpelled (a : LongAnswer) (text : List ℕ) : Type 0 where
    pub spelled : SpellsAnswer a [] text
    pub sizes : HasSizes (event_count x) (length text / 8) a

  pub answer_spelled : (a : LongAnswer) (text : List ℕ) → IsLongText x a text → IsWitness x a → IsLongSpelled a text
  answer_spelled (Order m) text printed witness = record {
    spelled = subst (SpellsAnswer (Order m) []) (append-nil (order_line m.items) ∙ sym printed)
        (order_spells m [] witness);
    sizes = length_total (event_count x) m.items witness.total;
  }
  answer_spelled (Overlook l s) text printed witness = record {
    spelled = subst (SpellsAnswer (Overlook l s) []) (append-nil (overlook_line l s) ∙ sym printed)
        (overlook_spells l s [] witness);
    sizes = tt;
  }
  answer_spelled (Cycle c) text printed witness =
      let head = codes "cycle of " ++ decimal (length c.items) in
      let whole : text ≡ head ++ 10 ∷ (printed.pairs ++ []) = printed.whole
      ∙ ap (λ (t : List ℕ). head ++ 10 ∷ t) (sym (append-nil printed.pairs)) in record {
        spelled = subst (SpellsAnswer (Cycle c) []) (sym whole)
            (cycle_spells x is.within.few_events within c printed.pairs [] [] witness printed.lines tt);
        sizes = omega (
          arith,
          lines_size c.items (length c.items) printed.pairs printed.lines,
          ap (λ (t : List ℕ). length t) printed.whole,
          length-append head (10 ∷ printed.pairs),
        );
      }
