-- The union of the rows that a set names, number by number.
use Rattle.std.proofs.Common.{◌≡◌, ◌<◌, ◌≤◌, ◌+◌, ◌*◌, ◌^◌, inl, inr, ℕ, Bool, true, false, ◌||◌, List, [], Some, set}
use Rattle.std.proofs.Common.{length, get_or, arith, w64, sym, ap, subst, ◌∙◌, get_or-set_other, get_or-set_same}
use Rattle.std.proofs.lemmas.Bool.{cases_Bool, cases_eq, cases_lt, or_cases, or_left, or_right, true≢false}
use Rattle.std.specs.Int.{trailing_zeros}
use Rattle.bitrow.specs.Bits.{is_in, bits_of, IsNext}
use Rattle.bitrow.specs.Rows.{Marked, IsBitSquare, IsBelow, GetsLabel, IsUnion}
use Rattle.bitrow.proofs.RowLemmas.{marked_within}
use Rattle.bitrow.specs.Walks.{IsRest}
use Rattle.bitrow.proofs.Members.{bits_bit}
use Rattle.bitrow.proofs.Rests.{rest_next}

-- a test is not both true and false
differ : (b : Bool) → b ≡ true → b ≡ false → ⊥
differ b is other = true≢false (sym is ∙ other)

-- a number of the set is below what it is below
pub number_below : (n : ℕ) (set : List Bool) (e : ℕ) → IsBelow n set → is_in set e ≡ true → e < n
number_below n set e below is = elim (cases_lt e n) [
  | inl inside ↦ inside
  | inr past ↦ absurd (differ (is_in set e) is (below e past))
]

-- the lowest bit of what is left of a word is that of a number below it
pub number_in : (n : ℕ) (words : List ℕ) (k rest from : ℕ) → IsBelow n (bits_of words) → IsRest words k rest from
    → (rest ≡ 0 → ⊥) → rest < 2 ^ 64 → 64 * k + trailing_zeros w64 rest < n
number_in n words k rest from below h some fits =
    let number : ℕ = 64 * k + trailing_zeros w64 rest in
    number_below n (bits_of words) number below
    (bits_bit words number ∙ (rest_next words k rest from h some fits).1)

-- one number more has the label
pub labels_more : (row : List Bool) (i number label : ℕ) (before now : List ℕ) → IsNext row i (Some number)
    → number < length now → GetsLabel row i label before now
    → GetsLabel row (number + 1) label before (set now number label)
labels_more row i number label before now next inside h = record {
  labelled = λ e at is. elim (cases_eq e number) [
    | inl same ↦ ap (λ (k : ℕ). get_or (set now number label) k 0) same
        ∙ get_or-set_same now number label 0 inside
    | inr other ↦ get_or-set_other now number e label 0 other
        ∙ h.labelled e (elim (cases_lt e i) [
          | inl early ↦ early
          | inr late ↦ absurd (differ (is_in row e) is (next.3 e late (omega (arith, at, other))))
        ]) is
  ];
  left = λ e apart. elim apart [
    | inl past ↦ get_or-set_other now number e label 0 (λ is. omega (arith, is, past))
        ∙ h.left e (inl (omega (arith, past, next.0)))
    | inr out ↦ get_or-set_other now number e label 0
        (λ is. differ (is_in row number) next.2 (ap (λ (k : ℕ). is_in row k) (sym is) ∙ out))
        ∙ h.left e (inr out)
  ];
}

-- and its row is joined
pub joins_more : (rows : List (List Bool)) (set : List Bool) (i number : ℕ) (union more : List Bool)
    → IsNext set i (Some number) → ((f : ℕ) → is_in more f ≡ (is_in union f || is_in (get_or rows number []) f))
    → IsUnion (Marked rows) set i union → IsUnion (Marked rows) set (number + 1) more
joins_more rows set i number union more next each h = record {
  joined = λ e f at is r. each f ∙ elim (cases_eq e number) [
    | inl same ↦ or_right (is_in union f) (is_in (get_or rows number []) f)
        (subst (λ (k : ℕ). is_in (get_or rows k []) f ≡ true) same r)
    | inr other ↦ or_left (is_in union f) (is_in (get_or rows number []) f) (elim (cases_lt e i) [
      | inl early ↦ h.joined e f early is r
      | inr late ↦ absurd (differ (is_in set e) is (next.3 e late (omega (arith, at, other))))
    ])
  ];
  only = λ f is. elim (or_cases (is_in union f) (is_in (get_or rows number []) f) (sym (each f) ∙ is)) [
    | inl old ↦ h.only f old
    | inr new ↦ (number, next.2, new)
  ];
}

-- labels stay, where no number is between two places
pub labels_on : (row : List Bool) (i to label : ℕ) (before after : List ℕ)
    → ((e : ℕ) → i ≤ e → e < to → is_in row e ≡ false) → ((e : ℕ) → to ≤ e → e < i → is_in row e ≡ false)
    → GetsLabel row i label before after → GetsLabel row to label before after
labels_on row i to label before after none beyond h = record {
  labelled = λ e at is. elim (cases_lt e i) [
    | inl early ↦ h.labelled e early is
    | inr late ↦ absurd (differ (is_in row e) is (none e late at))
  ];
  left = λ e apart. h.left e (elim apart [
    | inr out ↦ inr out
    | inl past ↦ elim (cases_lt e i) [ inl early ↦ inr (beyond e past early) | inr late ↦ inl late ]
  ]);
}

-- and so does what is joined
pub joins_on : (R : ℕ → ℕ → Type 0) (row : List Bool) (i to : ℕ) (union : List Bool)
    → ((e : ℕ) → i ≤ e → e < to → is_in row e ≡ false) → IsUnion R row i union → IsUnion R row to union
joins_on R row i to union none h = record {
  joined = λ e f at is r. elim (cases_lt e i) [
    | inl early ↦ h.joined e f early is r
    | inr late ↦ absurd (differ (is_in row e) is (none e late at))
  ];
  only = h.only;
}

-- it has nothing that is no row's
pub union_below : (rows : List (List Bool)) (set : List Bool) (i : ℕ) (union : List Bool) → IsBitSquare rows
    → IsUnion (Marked rows) set i union → IsBelow (length rows) union
union_below rows set i union square h f past = elim (cases_Bool (is_in union f)) [
  | inr none ↦ none
  | inl is ↦
      let some = h.only f is in
      absurd (omega (arith, past, (marked_within rows square some.0 f some.2).1))
]
