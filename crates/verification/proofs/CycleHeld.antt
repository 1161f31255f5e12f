-- The lines of a cycle that hold.
use Rattle.std.proofs.Common.{◌≡◌, ◌<◌, ◌≤◌, ◌++◌, ◌∷◌, [], ℕ, List, Some, inl, inr, arith, ap, refl, sym, subst, ◌∙◌}
use Rattle.std.proofs.Common.{append_assoc, append-nil, codes, decimal}
use Rattle.std.specs.Prelude.{Bool, Option, None, true, false}
use Rattle.std.proofs.lemmas.Bool.{cases_Bool}
use Rattle.std.proofs.lemmas.List.{append_cancel_left}
use Rattle.recording.specs.Execution.{Execution}
use Rattle.verification.specs.Faults.{IsCycleBegun}
use Rattle.verification.specs.Held.{ArePairsHeld, IsCycleHeld, PairsStand}
use Rattle.verification.specs.Spelled.{HasNoDigit}
use Rattle.verification.proofs.Spelling.{some_is}

-- what stands after the first words of a cycle
after_words : (x : Execution) (most k n : ℕ) (rest lines more : List ℕ) → (b : IsCycleBegun x most k n lines)
    → codes "cycle of " ++ rest ≡ lines ++ more → rest ≡ decimal k ++ 10 ∷ (b.pairs ++ more)
after_words x most k n rest lines more b is = append_cancel_left (codes "cycle of ") rest _
    (is ∙ ap (λ (t : List ℕ). t ++ more) b.whole
    ∙ append_assoc (codes "cycle of " ++ decimal k) (10 ∷ b.pairs) more
    ∙ append_assoc (codes "cycle of ") (decimal k) (10 ∷ (b.pairs ++ more)))

-- where no length stands, no line holds
pub no_cycle : (x : Execution) (most : ℕ) (rest old left : List ℕ)
    → ((k : ℕ) (back : List ℕ) → 0 < k → k ≤ most → rest ≡ decimal k ++ 10 ∷ back → ⊥)
    → IsCycleHeld x most (codes "cycle of " ++ rest) old old left None
no_cycle x most rest old left never = record {
  part = [];
  added = sym (append-nil old);
  holds = inl refl;
  whole = λ k some. absurd cc;
  longest = λ k n lines more b is.
      absurd (never k (b.pairs ++ more) b.some b.few (after_words x most k n rest lines more b is));
  full = λ k lines more b is.
      absurd (never k (b.pairs ++ more) b.some b.few (after_words x most k k rest lines more b is));
}

module _ (x : Execution) (most size : ℕ) (rest text old mid new left : List ℕ) (all : Bool) (r : Option ℕ)
    (some : 0 < size) (few : size ≤ most)
    (reads : (k : ℕ) (back : List ℕ) → k ≤ most → rest ≡ decimal k ++ 10 ∷ back → (size ≡ k) × (text ≡ 10 ∷ back))
    (is : mid ≡ old ++ (codes "cycle of " ++ decimal size) ++ 10 ∷ [])
    (held : ArePairsHeld x size text mid new left all)
    (given : all ≡ true → r ≡ Some size) (none : all ≡ false → r ≡ None) where
  -- the length and the lines of the pairs
  abbrev part : List ℕ
  part = codes "cycle of " ++ decimal size ++ 10 ∷ held.part

  -- pairs of a cycle of this length stand
  stand : (k n : ℕ) (lines more : List ℕ) → (b : IsCycleBegun x most k n lines)
      → codes "cycle of " ++ rest ≡ lines ++ more
      → PairsStand x size n text b.pairs more × (lines ≡ codes "cycle of " ++ decimal size ++ 10 ∷ b.pairs) × (size ≡ k)
  stand k n lines more b is =
      let read = reads k (b.pairs ++ more) b.few (after_words x most k n rest lines more b is) in (
        record {
          within = omega (arith, read.0, b.within);
          first = b.first;
          last = b.last;
          lead = b.lead;
          closes = λ full. b.closes (full ∙ read.0);
          whole = read.1;
        },
        b.whole ∙ ap (λ (m : ℕ). codes "cycle of " ++ decimal m ++ 10 ∷ b.pairs) (sym read.0),
        read.0,
      )

  -- what is added are lines of a cycle
  begun : IsCycleBegun x most size held.count part
  begun = record {
    some = some;
    few = few;
    within = held.within;
    first = held.first;
    last = held.last;
    pairs = held.part;
    lead = held.lead;
    closes = held.closes;
    whole = refl;
  }

  -- all that holds is added
  longest : (k n : ℕ) (lines more : List ℕ) → IsCycleBegun x most k n lines
      → codes "cycle of " ++ rest ≡ lines ++ more → (back : List ℕ) × (part ≡ lines ++ back)
  longest k n lines more b is =
      let s = stand k n lines more b is in
      let head = codes "cycle of " ++ decimal size in
      let longer = held.most n b.pairs more s.0 in (
        longer.0,
        ap (λ (t : List ℕ). head ++ 10 ∷ t) longer.1 ∙ sym (append_assoc head (10 ∷ b.pairs) longer.0)
            ∙ ap (λ (t : List ℕ). t ++ longer.0) (sym s.1),
      )

  -- all pairs
  full : (k : ℕ) (lines more : List ℕ) → IsCycleBegun x most k k lines → codes "cycle of " ++ rest ≡ lines ++ more
      → (r ≡ Some k) × (part ≡ lines) × ((gap : List ℕ) × HasNoDigit gap × (left ≡ gap ++ more))
  full k lines more b is =
      let s = stand k k lines more b is in
      let stands : PairsStand x size size text b.pairs more =
      subst (λ (n : ℕ). PairsStand x size n text b.pairs more) (sym s.2) s.0 in
      let h = held.full b.pairs more some stands in (
        given h.0 ∙ ap (λ (n : ℕ). Some n) s.2,
        ap (λ (t : List ℕ). codes "cycle of " ++ decimal size ++ 10 ∷ t) h.1 ∙ sym s.1,
        h.2,
      )

  -- where a length is given, all pairs hold
  whole : (k : ℕ) → r ≡ Some k → IsCycleBegun x most k k part
  whole k is = elim (cases_Bool all) [
    | inl all_hold ↦
        let same : size ≡ k = some_is size k (sym (given all_hold) ∙ is) in
        subst (λ (m : ℕ). IsCycleBegun x most m m part) same
        (subst (λ (n : ℕ). IsCycleBegun x most size n part) (held.whole all_hold) begun)
    | inr not_all ↦ absurd (none_some k (sym (none not_all) ∙ is))
  ]
    where
      none_some : (k : ℕ) → None ≡ Some k → ⊥
      none_some k is = absurd cc

  pub cycle_held : IsCycleHeld x most (codes "cycle of " ++ rest) old new left r
  cycle_held = record {
    part = part;
    added = held.added ∙ ap (λ (t : List ℕ). t ++ held.part)
        (is ∙ append_assoc old (codes "cycle of " ++ decimal size) (10 ∷ []))
        ∙ append_assoc old (codes "cycle of " ++ decimal size ++ 10 ∷ []) held.part
        ∙ ap (λ (t : List ℕ). old ++ t) (append_assoc (codes "cycle of " ++ decimal size) (10 ∷ []) held.part);
    holds = inr (size, held.count, begun);
    whole = whole;
    longest = longest;
    full = full;
  }
