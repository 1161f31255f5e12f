-- Laws of ledgers: of two lists joined, that the counts add up, and that codes have one ledger.
use Rattle.std.proofs.Common.{◌≡◌, ◌+◌, ◌<◌, ◌≤◌, ◌&&◌, ◌==◌, ℕ, zero, suc, Bool, true, false, cond, nat_lt, nat_le}
use Rattle.std.proofs.Common.{List, [], ◌∷◌, ◌++◌, Option, None, Some, arith, refl, sym, ap, ◌∙◌, inl, inr, not}
use Rattle.std.proofs.Common.{length, length-append, take, take_all, sum, count_by, position, lt-ltb}
use Rattle.std.proofs.Common.{le-ltb, eq-eqb, ne_eqb}
use Rattle.std.specs.List.{position_or_len}
use Rattle.std.proofs.lemmas.Bool.{cases_lt}
use Rattle.std.proofs.lemmas.Bool.Decides.{nat_tests}
use Rattle.std.proofs.lemmas.List.{ext_get_or}
use Rattle.std.proofs.lemmas.List.Sums.{sum_by-append, sum_by-cons, sum_by_more, prefix_len-le-length}
use Rattle.std.proofs.lemmas.List.Folds.{prefix_len-append}
use Rattle.ledger.specs.declared.code.TheConstants.{CYCLE, LONG_CYCLE}
use Rattle.ledger.specs.Kinds.{is_ordered, is_unjudged, is_overlook, is_cycle_of, is_violation}
use Rattle.ledger.specs.Counts.{AreCounts}
use Rattle.ledger.specs.Joined.{EveryTwoListsJoin, EveryLedgerAddsUp, EveryListHasOneLedger, first_of}

-- a count of two lists joined
pub count_append : (p : ℕ → Bool) (xs ys : List ℕ) → count_by p (xs ++ ys) ≡ count_by p xs + count_by p ys
count_append p xs ys = sum_by-append (λ x. cond (p x) 1 0) xs ys

-- a count of one more in front
pub count_cons : (p : ℕ → Bool) (x : ℕ) (xs : List ℕ) → count_by p (x ∷ xs) ≡ cond (p x) 1 0 + count_by p xs
count_cons p x xs = sum_by-cons (λ x. cond (p x) 1 0) x xs

-- where one passes, its place
pub position_some : (p : ℕ → Bool) (xs : List ℕ) (a : ℕ) → position_or_len p xs ≡ a → a < length xs
    → position p xs ≡ Some a
position_some p xs a is low =
    let t : nat_lt (position_or_len p xs) (length xs) ≡ true = lt-ltb _ _ (omega (arith, is, low)) in
    rw t (ap (λ (k : ℕ). Some k) is)

-- where none passes, none
position_none : (p : ℕ → Bool) (xs : List ℕ) → length xs ≤ position_or_len p xs → position p xs ≡ None
position_none p xs high =
    let t : nat_lt (position_or_len p xs) (length xs) ≡ false = le-ltb _ _ high in rw t refl

-- the first place of two lists joined
pub position_append : (p : ℕ → Bool) (xs ys : List ℕ)
    → position p (xs ++ ys) ≡ first_of (position p xs) (length xs) (position p ys)
position_append p xs ys =
    let a : ℕ = position_or_len p xs in
    let b : ℕ = position_or_len p ys in
    let within : a ≤ length xs = prefix_len-le-length (λ x. not (p x)) xs in
    let all = length-append xs ys in
    let is : position_or_len p (xs ++ ys) ≡ cond (a == length xs) (length xs + b) a =
    prefix_len-append (λ x. not (p x)) xs ys in
    elim (cases_lt a (length xs)) [
      | inl low ↦ let no : (a == length xs) ≡ false = ne_eqb _ _ (λ e. omega (arith, e, low)) in
          position_some p (xs ++ ys) a (is ∙ rw no refl) (omega (arith, low, all))
          ∙ sym (ap (λ (o : Option ℕ). first_of o (length xs) (position p ys)) (position_some p xs a refl low))
      | inr high ↦ let yes : (a == length xs) ≡ true = eq-eqb _ _ (omega (arith, high, within)) in
          let at : position_or_len p (xs ++ ys) ≡ length xs + b = is ∙ rw yes refl in
          let none : position p xs ≡ None = position_none p xs high in
          rw none (elim (cases_lt b (length ys)) [
            | inl low ↦ position_some p (xs ++ ys) (length xs + b) at (omega (arith, low, all))
                ∙ sym (ap (λ (o : Option ℕ). first_of None (length xs) o) (position_some p ys b refl low))
            | inr past ↦ position_none p (xs ++ ys) (omega (arith, at, all, past))
                ∙ sym (ap (λ (o : Option ℕ). first_of None (length xs) o) (position_none p ys past))
          ])
    ]

-- the ledger of two lists joined is that of the one and that of the other
pub joined : EveryTwoListsJoin
joined xs ys l m both a b j = record {
  total = omega (arith, j.total, a.total, b.total, length-append xs ys);
  ordered = omega (arith, j.ordered, a.ordered, b.ordered, count_append is_ordered xs ys);
  unjudged = omega (arith, j.unjudged, a.unjudged, b.unjudged, count_append is_unjudged xs ys);
  overlook = omega (arith, j.overlook, a.overlook, b.overlook, count_append is_overlook xs ys);
  lengths = j.lengths ∙ a.lengths;
  cycles = λ n within. omega (
    arith,
    j.cycles n,
    a.cycles n within,
    b.cycles n within,
    count_append (is_cycle_of n) xs ys,
  );
  first = let law = position_append is_violation xs ys in
      let u = j.first in let v = a.first in let w = b.first in let n = a.total in cc;
  first_unjudged = let law = position_append is_unjudged xs ys in
      let u = j.first_unjudged in let v = a.first_unjudged in let w = b.first_unjudged in let n = a.total in cc;
}

-- the code of a cycle shorter than m
abbrev is_cycle_below : ℕ → ℕ → Bool
is_cycle_below m code = nat_le CYCLE code && nat_lt code (CYCLE + m)

-- where none passes, the count is 0
count_none : (p : ℕ → Bool) → ((x : ℕ) → p x ≡ false) → (xs : List ℕ) → count_by p xs ≡ 0
count_none p fails [] = refl
count_none p fails (x ∷ xs) = omega (
  arith,
  count_cons p x xs,
  ap {B = ℕ} (λ (b : Bool). cond b 1 0) (fails x),
  count_none p fails xs,
)

-- what passes one of two tests that exclude each other
count_either : (p q r : ℕ → Bool) → ((x : ℕ) → cond (p x) 1 0 ≡ cond (q x) 1 0 + cond (r x) 1 0)
    → (xs : List ℕ) → count_by p xs ≡ count_by q xs + count_by r xs
count_either p q r each [] = refl
count_either p q r each (x ∷ xs) = omega (
  arith,
  count_cons p x xs,
  count_cons q x xs,
  count_cons r x xs,
  each x,
  count_either p q r each xs,
)

-- where each item passes one of four tests, the counts add up
count_all : (p q r s : ℕ → Bool)
    → ((x : ℕ) → cond (p x) 1 0 + cond (q x) 1 0 + cond (r x) 1 0 + cond (s x) 1 0 ≡ 1) → (xs : List ℕ)
    → count_by p xs + count_by q xs + count_by r xs + count_by s xs ≡ length xs
count_all p q r s each [] = refl
count_all p q r s each (x ∷ xs) = omega (
  arith,
  count_cons p x xs,
  count_cons q x xs,
  count_cons r x xs,
  count_cons s x xs,
  each x,
  count_all p q r s each xs,
)

-- no cycle is shorter than none
none_below : (x : ℕ) → is_cycle_below 0 x ≡ false
none_below x = grind (arith, nat_tests)

-- one length more
one_length : (m x : ℕ) → cond (is_cycle_below (m + 1) x) 1 0 ≡ cond (is_cycle_below m x) 1 0
    + cond (is_cycle_of m x) 1 0
one_length m x = grind (arith, nat_tests)

-- each code is of one kind
one_kind : (x : ℕ) → cond (is_ordered x) 1 0 + cond (is_unjudged x) 1 0 + cond (is_overlook x) 1 0
    + cond (is_cycle_below (LONG_CYCLE + 1) x) 1 0 ≡ 1
one_kind x = grind (arith, nat_tests)

-- the counts of the lengths below m
counts_below : (codes counts : List ℕ) → length counts ≡ LONG_CYCLE + 1 → AreCounts codes counts → (m : ℕ)
    → m ≤ LONG_CYCLE + 1 → sum (take m counts) ≡ count_by (is_cycle_below m) codes
counts_below codes counts size are zero within = sym (count_none (is_cycle_below 0) none_below codes)
counts_below codes counts size are (suc m) within =
    let e : suc m ≡ m + 1 = omega arith in
    let low : m ≤ LONG_CYCLE = omega (arith, within) in
    rw e (omega (
      arith,
      sum_by_more (λ (x : ℕ). x) counts m 0 (omega (arith, size, within)),
      counts_below codes counts size are m (omega (arith, within)),
      are m low,
      count_either (is_cycle_below (m + 1)) (is_cycle_below m) (is_cycle_of m) (one_length m) codes,
    ))

-- the counts of a ledger add up
pub adds_up : EveryLedgerAddsUp
adds_up codes l is =
    let whole : take (LONG_CYCLE + 1) l.cycles.items ≡ l.cycles.items =
    take_all (LONG_CYCLE + 1) l.cycles.items (omega (arith, is.lengths)) in
    let cycles = counts_below codes l.cycles.items is.lengths is.cycles (LONG_CYCLE + 1) (omega arith) in
    omega (
      arith,
      is.total,
      is.ordered,
      is.unjudged,
      is.overlook,
      ap sum whole,
      cycles,
      count_all is_ordered is_unjudged is_overlook (is_cycle_below (LONG_CYCLE + 1)) one_kind codes,
    )

-- codes have one ledger
pub one_ledger : EveryListHasOneLedger
one_ledger codes l m a b = record {
  total = a.total ∙ sym b.total;
  ordered = a.ordered ∙ sym b.ordered;
  unjudged = a.unjudged ∙ sym b.unjudged;
  overlook = a.overlook ∙ sym b.overlook;
  cycles = ext_get_or 0 l.cycles.items m.cycles.items (a.lengths ∙ sym b.lengths) (λ n low.
      let within : n ≤ LONG_CYCLE = omega (arith, low, a.lengths) in
      a.cycles n within ∙ sym (b.cycles n within));
  first = a.first ∙ sym b.first;
  first_unjudged = a.first_unjudged ∙ sym b.first_unjudged;
}
