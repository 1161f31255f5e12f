-- Lemmas on counts: those that add up, with first places that fit them, are those of some codes, and all others of
-- none.
use Rattle.std.proofs.Common.{◌≡◌, ◌+◌, ◌*◌, ◌-◌, ◌<◌, ◌≤◌, ℕ, zero, suc, Bool, true, false, cond}
use Rattle.std.proofs.Common.{List, [], ◌∷◌, ◌++◌, Option, None, Some, arith, refl, sym, ap, subst, ◌∙◌, inl, inr}
use Rattle.std.proofs.Common.{length, length-append, get_or, take, drop, take_all, sum, count_by, position}
use Rattle.std.proofs.Common.{eq-eqb, ne_eqb, ◌⊎◌}
use Rattle.std.proofs.Math.ListN.{replicate}
use Rattle.std.proofs.lemmas.Bool.{cases_lt}
use Rattle.std.proofs.lemmas.Bool.Decides.{nat_tests}
use Rattle.std.proofs.lemmas.List.{length-replicate, length-take-le, take-append-drop}
use Rattle.std.proofs.lemmas.List.Folds.{sum_by-replicate}
use Rattle.std.proofs.lemmas.List.Sums.{count_by-le-length, sum_by_more}
use Rattle.ledger.specs.declared.code.TheConstants.{CYCLE, LONG_CYCLE, ORDERED, OVERLOOK, UNFINISHED}
use Rattle.ledger.specs.Kinds.{is_ordered, is_unjudged, is_overlook, is_cycle_of, is_violation}
use Rattle.ledger.specs.Joined.{first_of}
use Rattle.ledger.specs.Real.{AreApart, EveryFittingLedgerHasCodes, EveryLedgerFits, IsFirstOf, violation_count}
use Rattle.ledger.specs.LedgerLaws.{adds_up, count_append, count_cons, position_append, position_some}

-- ---- first places

-- where the first item passes, its place is the first
position_yes : (p : ℕ → Bool) (x : ℕ) (xs : List ℕ) → p x ≡ true → position p (x ∷ xs) ≡ Some 0
position_yes p x xs passes = position_some p (x ∷ xs) 0 (rw passes refl) (omega arith)

-- where it doesn't, the first place is one after that of the others
position_no : (p : ℕ → Bool) (x : ℕ) (xs : List ℕ) → p x ≡ false
    → position p (x ∷ xs) ≡ first_of None 1 (position p xs)
position_no p x xs fails = position_append p (x ∷ []) xs
    ∙ ap (λ (o : Option ℕ). first_of o 1 (position p xs)) (alone fails)
  where
    alone : p x ≡ false → position p (x ∷ []) ≡ None
    alone fails = rw fails refl

-- what passes or doesn't, counted in front of others
count_yes : (p : ℕ → Bool) (x : ℕ) (xs : List ℕ) → p x ≡ true → count_by p (x ∷ xs) ≡ 1 + count_by p xs
count_yes p x xs passes = omega (arith, count_cons p x xs, ap {B = ℕ} (λ (b : Bool). cond b 1 0) passes)

count_no : (p : ℕ → Bool) (x : ℕ) (xs : List ℕ) → p x ≡ false → count_by p (x ∷ xs) ≡ count_by p xs
count_no p x xs fails = omega (arith, count_cons p x xs, ap {B = ℕ} (λ (b : Bool). cond b 1 0) fails)

-- a place one further
fits_after : (count total : ℕ) (o : Option ℕ) → IsFirstOf count total o
    → IsFirstOf count (1 + total) (first_of None 1 o)
fits_after count total None fits = fits
fits_after count total (Some i) fits = (fits.0, omega (arith, fits.1))

-- the first place of what passes fits how many do
first_fits : (p : ℕ → Bool) (xs : List ℕ) → IsFirstOf (count_by p xs) (length xs) (position p xs)
first_fits p [] = refl
first_fits p (x ∷ xs) = go (p x) refl (first_fits p xs)
  where
    go : (b : Bool) → p x ≡ b → IsFirstOf (count_by p xs) (length xs) (position p xs)
        → IsFirstOf (count_by p (x ∷ xs)) (length (x ∷ xs)) (position p (x ∷ xs))
    go true passes rest = subst (λ (o : Option ℕ). IsFirstOf (count_by p (x ∷ xs)) (length (x ∷ xs)) o)
        (sym (position_yes p x xs passes))
        (omega (arith, count_yes p x xs passes), omega (arith, count_by-le-length p (x ∷ xs)))
    go false fails rest = subst (λ (o : Option ℕ). IsFirstOf (count_by p (x ∷ xs)) (length (x ∷ xs)) o)
        (sym (position_no p x xs fails))
        (subst (λ (n : ℕ). IsFirstOf n (length (x ∷ xs)) (first_of None 1 (position p xs)))
        (sym (count_no p x xs fails))
        (subst (λ (n : ℕ). IsFirstOf (count_by p xs) n (first_of None 1 (position p xs)))
        (let one : 1 + length xs ≡ length (x ∷ xs) = omega arith in one)
        (fits_after (count_by p xs) (length xs) (position p xs) rest)))

-- where none is counted, none has a place
none_placed : (p : ℕ → Bool) (xs : List ℕ) → count_by p xs ≡ 0 → position p xs ≡ None
none_placed p xs none = go (position p xs) (first_fits p xs)
  where
    go : (o : Option ℕ) → IsFirstOf (count_by p xs) (length xs) o → o ≡ None
    go None fits = refl
    go (Some i) fits = absurd (omega (arith, fits.0, none))

-- where all are counted, the first passes
all_first : (p : ℕ → Bool) (x : ℕ) (xs : List ℕ) → count_by p (x ∷ xs) ≡ length (x ∷ xs) → p x ≡ true
all_first p x xs all = go (p x) refl
  where
    go : (b : Bool) → p x ≡ b → p x ≡ true
    go true passes = passes
    go false fails = absurd (omega (arith, all, count_no p x xs fails, count_by-le-length p xs))

-- places one further are apart
apart_after : (r : ℕ) (f g : Option ℕ) → AreApart r f g → AreApart (1 + r) (first_of None 1 f) (first_of None 1 g)
apart_after r None g apart = tt
apart_after r (Some i) None apart = tt
apart_after r (Some i) (Some j) apart = (
  λ same. apart.0 (omega (arith, same)),
  elim apart.1 [
    | inl low ↦ inl (omega (arith, low))
    | inr low ↦ inr (omega (arith, low))
  ],
)

-- the first place is apart from each later one
apart_first : (r : ℕ) (g : Option ℕ) → AreApart r (Some 0) (first_of None 1 g)
apart_first r None = tt
apart_first r (Some j) = ((λ same. omega (arith, same)), inl (omega arith))

apart_second : (r : ℕ) (f : Option ℕ) → AreApart r (first_of None 1 f) (Some 0)
apart_second r None = tt
apart_second r (Some i) = ((λ same. omega (arith, same)), inr (omega arith))

-- the first places of two kinds are apart, where all others are of a third
apart_fits : (p q r : ℕ → Bool) → ((x : ℕ) → cond (p x) 1 0 + cond (q x) 1 0 + cond (r x) 1 0 ≡ 1) → (xs : List ℕ)
    → AreApart (count_by r xs) (position p xs) (position q xs)
apart_fits p q r each [] = tt
apart_fits p q r each (x ∷ xs) = go (p x) (q x) (r x) refl refl refl (each x) (apart_fits p q r each xs)
  where
    at : (n : ℕ) (f g : Option ℕ) → count_by r (x ∷ xs) ≡ n → position p (x ∷ xs) ≡ f → position q (x ∷ xs) ≡ g
        → AreApart n f g → AreApart (count_by r (x ∷ xs)) (position p (x ∷ xs)) (position q (x ∷ xs))
    at n f g count first second apart =
        subst (λ (m : ℕ). AreApart m (position p (x ∷ xs)) (position q (x ∷ xs))) (sym count)
        (subst (λ (o : Option ℕ). AreApart n o (position q (x ∷ xs))) (sym first)
        (subst (λ (o : Option ℕ). AreApart n f o) (sym second) apart))

    go : (a b c : Bool) → p x ≡ a → q x ≡ b → r x ≡ c → cond (p x) 1 0 + cond (q x) 1 0 + cond (r x) 1 0 ≡ 1
        → AreApart (count_by r xs) (position p xs) (position q xs)
        → AreApart (count_by r (x ∷ xs)) (position p (x ∷ xs)) (position q (x ∷ xs))
    go true b c passes second third one rest = second_no b second
      where
        second_no : (b : Bool) → q x ≡ b
            → AreApart (count_by r (x ∷ xs)) (position p (x ∷ xs)) (position q (x ∷ xs))
        second_no true too = absurd (omega (
          arith,
          one,
          ap {B = ℕ} (λ (b : Bool). cond b 1 0) passes,
          ap {B = ℕ} (λ (b : Bool). cond b 1 0) too,
        ))
        second_no false fails = at (count_by r (x ∷ xs)) (Some 0) (first_of None 1 (position q xs)) refl
            (position_yes p x xs passes) (position_no q x xs fails) (apart_first (count_by r (x ∷ xs)) (position q xs))
    go false true c fails passes third one rest =
        at (count_by r (x ∷ xs)) (first_of None 1 (position p xs)) (Some 0) refl
        (position_no p x xs fails) (position_yes q x xs passes) (apart_second (count_by r (x ∷ xs)) (position p xs))
    go false false true fails not passes one rest = at (1 + count_by r xs) (first_of None 1 (position p xs))
        (first_of None 1 (position q xs)) (count_yes r x xs passes) (position_no p x xs fails) (position_no q x xs not)
        (apart_after (count_by r xs) (position p xs) (position q xs) rest)
    go false false false fails not nor one rest = absurd (omega (
      arith,
      one,
      ap {B = ℕ} (λ (b : Bool). cond b 1 0) fails,
      ap {B = ℕ} (λ (b : Bool). cond b 1 0) not,
      ap {B = ℕ} (λ (b : Bool). cond b 1 0) nor,
    ))

-- each code is a violation, has no verdict, or is that of an order
one_kind : (x : ℕ) → cond (is_violation x) 1 0 + cond (is_unjudged x) 1 0 + cond (is_ordered x) 1 0 ≡ 1
one_kind x = grind (arith, nat_tests)

-- where each item passes one of three tests, the counts add up
count_three : (p q r : ℕ → Bool) → ((x : ℕ) → cond (p x) 1 0 + cond (q x) 1 0 + cond (r x) 1 0 ≡ 1) → (xs : List ℕ)
    → count_by p xs + count_by q xs + count_by r xs ≡ length xs
count_three p q r each [] = refl
count_three p q r each (x ∷ xs) = omega (
  arith,
  count_cons p x xs,
  count_cons q x xs,
  count_cons r x xs,
  each x,
  count_three p q r each xs,
)

-- the first places of every ledger fit its counts
pub firsts_fit : EveryLedgerFits
firsts_fit codes l is =
    let counted : count_by is_violation codes ≡ violation_count l = omega (
      arith,
      adds_up codes l is,
      count_three is_violation is_unjudged is_ordered one_kind codes,
      is.total,
      is.ordered,
      is.unjudged,
    ) in record {
      violation = rw (← counted, is.total, is.first) (first_fits is_violation codes);
      unjudged = rw (is.unjudged, is.total, is.first_unjudged) (first_fits is_unjudged codes);
      apart = rw (is.ordered, is.first, is.first_unjudged)
          (apart_fits is_violation is_unjudged is_ordered one_kind codes);
    }

-- ---- codes of given counts

-- the same code again and again
count_replicate_yes : (p : ℕ → Bool) (n x : ℕ) → p x ≡ true → count_by p (replicate n x) ≡ n
count_replicate_yes p n x passes = sum_by-replicate (λ (y : ℕ). cond (p y) 1 0) n x
    ∙ ap {B = ℕ} (λ (b : Bool). n * cond b 1 0) passes ∙ omega arith

count_replicate_no : (p : ℕ → Bool) (n x : ℕ) → p x ≡ false → count_by p (replicate n x) ≡ 0
count_replicate_no p n x fails = sum_by-replicate (λ (y : ℕ). cond (p y) 1 0) n x
    ∙ ap {B = ℕ} (λ (b : Bool). n * cond b 1 0) fails ∙ omega arith

-- the codes of cycles of the lengths below m
cycle_codes : List ℕ → ℕ → List ℕ
cycle_codes counts zero = []
cycle_codes counts (suc m) = cycle_codes counts m ++ replicate (get_or counts m 0) (CYCLE + m)

-- there are as many as the counts say
length_cycles : (counts : List ℕ) (m : ℕ) → m ≤ length counts → length (cycle_codes counts m) ≡ sum (take m counts)
unfolding cycle_codes
length_cycles counts zero within = refl
length_cycles counts (suc m) within =
    let e : suc m ≡ m + 1 = omega arith in
    rw e (omega (
      arith,
      length-append (cycle_codes counts m) (replicate (get_or counts m 0) (CYCLE + m)),
      length-replicate {A = ℕ} (get_or counts m 0) (CYCLE + m),
      length_cycles counts m (omega (arith, within)),
      sum_by_more (λ (x : ℕ). x) counts m 0 (omega (arith, within)),
    ))

-- what the codes of cycles don't pass
cycles_fail : (p : ℕ → Bool) → ((n : ℕ) → n ≤ LONG_CYCLE → p (CYCLE + n) ≡ false) → (counts : List ℕ) (m : ℕ)
    → m ≤ LONG_CYCLE + 1 → count_by p (cycle_codes counts m) ≡ 0
unfolding cycle_codes
cycles_fail p fails counts zero within = refl
cycles_fail p fails counts (suc m) within = omega (
  arith,
  count_append p (cycle_codes counts m) (replicate (get_or counts m 0) (CYCLE + m)),
  count_replicate_no p (get_or counts m 0) (CYCLE + m) (fails m (omega (arith, within))),
  cycles_fail p fails counts m (omega (arith, within)),
)

-- what they pass
cycles_pass : (p : ℕ → Bool) → ((n : ℕ) → n ≤ LONG_CYCLE → p (CYCLE + n) ≡ true) → (counts : List ℕ) (m : ℕ)
    → m ≤ LONG_CYCLE + 1 → count_by p (cycle_codes counts m) ≡ length (cycle_codes counts m)
unfolding cycle_codes
cycles_pass p passes counts zero within = refl
cycles_pass p passes counts (suc m) within = omega (
  arith,
  count_append p (cycle_codes counts m) (replicate (get_or counts m 0) (CYCLE + m)),
  count_replicate_yes p (get_or counts m 0) (CYCLE + m) (passes m (omega (arith, within))),
  cycles_pass p passes counts m (omega (arith, within)),
  length-append (cycle_codes counts m) (replicate (get_or counts m 0) (CYCLE + m)),
  length-replicate {A = ℕ} (get_or counts m 0) (CYCLE + m),
)

-- no code of a shorter cycle is that of one of length n
cycles_shorter : (n : ℕ) (counts : List ℕ) (m : ℕ) → m ≤ n → count_by (is_cycle_of n) (cycle_codes counts m) ≡ 0
unfolding cycle_codes
cycles_shorter n counts zero within = refl
cycles_shorter n counts (suc m) within = omega (
  arith,
  count_append (is_cycle_of n) (cycle_codes counts m) (replicate (get_or counts m 0) (CYCLE + m)),
  count_replicate_no (is_cycle_of n) (get_or counts m 0) (CYCLE + m) (ne_eqb _ _ (λ e. omega (arith, e, within))),
  cycles_shorter n counts m (omega (arith, within)),
)

-- the codes of cycles of each length are as many as its count
cycles_counted : (n : ℕ) (counts : List ℕ) (m : ℕ) → n < m
    → count_by (is_cycle_of n) (cycle_codes counts m) ≡ get_or counts n 0
unfolding cycle_codes
cycles_counted n counts zero within = absurd (omega (arith, within))
cycles_counted n counts (suc m) within = elim (cases_lt n m) [
  | inl low ↦ omega (
    arith,
    count_append (is_cycle_of n) (cycle_codes counts m) (replicate (get_or counts m 0) (CYCLE + m)),
    count_replicate_no (is_cycle_of n) (get_or counts m 0) (CYCLE + m) (ne_eqb _ _ (λ e. omega (arith, e, low))),
    cycles_counted n counts m low,
  )
  | inr high ↦ let same : n ≡ m = omega (arith, within, high) in omega (
    arith,
    count_append (is_cycle_of n) (cycle_codes counts m) (replicate (get_or counts m 0) (CYCLE + m)),
    count_replicate_yes (is_cycle_of n) (get_or counts m 0) (CYCLE + m) (eq-eqb _ _ (omega (arith, same))),
    cycles_shorter n counts m (omega (arith, same)),
    ap (λ (k : ℕ). get_or counts k 0) same,
  )
]

-- ---- codes with given first places

-- i of the first, then those of the second and the rest of the first, after k of which the third stand
arranged : List ℕ → List ℕ → List ℕ → ℕ → ℕ → List ℕ
arranged os bs cs i k = take i os ++ (take k (bs ++ drop i os) ++ (cs ++ drop k (bs ++ drop i os)))

-- a count of a list in two parts
count_parts : (r : ℕ → Bool) (k : ℕ) (xs : List ℕ) → count_by r (take k xs) + count_by r (drop k xs) ≡ count_by r xs
count_parts r k xs = omega (
  arith,
  count_append r (take k xs) (drop k xs),
  ap (count_by r) (take-append-drop k xs),
)

-- the counts are those of the three
count_arranged : (r : ℕ → Bool) (os bs cs : List ℕ) (i k : ℕ)
    → count_by r (arranged os bs cs i k) ≡ count_by r os + count_by r bs + count_by r cs
unfolding arranged
count_arranged r os bs cs i k =
    let ws : List ℕ = bs ++ drop i os in omega (
      arith,
      count_append r (take i os) (take k ws ++ (cs ++ drop k ws)),
      count_append r (take k ws) (cs ++ drop k ws),
      count_append r cs (drop k ws),
      count_append r bs (drop i os),
      count_parts r k ws,
      count_parts r i os,
    )

-- the second begin at i
first_arranged : (p : ℕ → Bool) (os bs cs : List ℕ) (i k : ℕ) → count_by p os ≡ 0 → i ≤ length os → 0 < k
    → 0 < length bs → count_by p bs ≡ length bs → position p (arranged os bs cs i k) ≡ Some i
unfolding arranged
first_arranged p os [] cs i k none within some more all = absurd (omega (arith, more))
first_arranged p os (b ∷ bs) cs i zero none within some more all = absurd (omega (arith, some))
first_arranged p os (b ∷ bs) cs i (suc k) none within some more all =
    let rest : List ℕ = take k (bs ++ drop i os) ++ (cs ++ drop k (bs ++ drop i os)) in
    let zero_in : count_by p (take i os) ≡ 0 = omega (arith, count_parts p i os, none) in
    let at : i + 0 ≡ i = omega arith in
    position_append p (take i os) (b ∷ rest)
    ∙ ap (λ (o : Option ℕ). first_of o (length (take i os)) (position p (b ∷ rest))) (none_placed p (take i os) zero_in)
    ∙ ap (λ (n : ℕ). first_of None n (position p (b ∷ rest))) (length-take-le i os within)
    ∙ ap (λ (o : Option ℕ). first_of None i o) (position_yes p b rest (all_first p b bs all))
    ∙ ap (λ (n : ℕ). Some n) at

-- the third begin at i + k
second_arranged : (q : ℕ → Bool) (os bs cs : List ℕ) (i k : ℕ) → count_by q os ≡ 0 → count_by q bs ≡ 0
    → i ≤ length os → k ≤ length bs + (length os - i) → 0 < length cs → count_by q cs ≡ length cs
    → length (drop i os) ≡ length os - i → position q (arranged os bs cs i k) ≡ Some (i + k)
unfolding arranged
second_arranged q os bs [] i k none fails within short some all left = absurd (omega (arith, some))
second_arranged q os bs (c ∷ cs) i k none fails within short some all left =
    let ws : List ℕ = bs ++ drop i os in
    let back : List ℕ = cs ++ drop k ws in
    let first : count_by q (take i os) ≡ 0 = omega (arith, count_parts q i os, none) in
    let then : count_by q (take k ws) ≡ 0 = omega (
      arith,
      count_parts q k ws,
      count_append q bs (drop i os),
      count_parts q i os,
      none,
      fails,
    ) in
    let size : length (take k ws) ≡ k =
    length-take-le k ws (omega (arith, length-append bs (drop i os), left, short)) in
    let at : i + (k + 0) ≡ i + k = omega arith in
    position_append q (take i os) (take k ws ++ (c ∷ back))
    ∙ ap (λ (o : Option ℕ). first_of o (length (take i os)) (position q (take k ws ++ (c ∷ back))))
    (none_placed q (take i os) first)
    ∙ ap (λ (n : ℕ). first_of None n (position q (take k ws ++ (c ∷ back)))) (length-take-le i os within)
    ∙ ap (λ (o : Option ℕ). first_of None i o) (position_append q (take k ws) (c ∷ back)
    ∙ ap (λ (o : Option ℕ). first_of o (length (take k ws)) (position q (c ∷ back))) (none_placed q (take k ws) then)
    ∙ ap (λ (n : ℕ). first_of None n (position q (c ∷ back))) size
    ∙ ap (λ (o : Option ℕ). first_of None k o) (position_yes q c back (all_first q c cs all)))
    ∙ ap (λ (n : ℕ). Some n) at

-- codes with the counts of three lists, of which two kinds begin at given places
record IsArrangement (p q : ℕ → Bool) (os bs cs : List ℕ) (f g : Option ℕ) : Type 0 where
  codes : List ℕ
  counts : (r : ℕ → Bool) → count_by r codes ≡ count_by r os + count_by r bs + count_by r cs
  first : position p codes ≡ f
  second : position q codes ≡ g

-- the same with the kinds in turn
turned : (p q : ℕ → Bool) (os bs cs : List ℕ) (f g : Option ℕ) → IsArrangement q p os cs bs g f
    → IsArrangement p q os bs cs f g
turned p q os bs cs f g a = record {
  codes = a.codes;
  counts = λ r. omega (arith, a.counts r);
  first = a.second;
  second = a.first;
}

-- three kinds of codes: those of neither, which are of no other kind, and those of each of two
record AreKinds (p q : ℕ → Bool) (os bs cs : List ℕ) : Type 0 where
  no_first : count_by p os ≡ 0
  no_second : count_by q os ≡ 0
  all_first : count_by p bs ≡ length bs
  none_second : count_by q bs ≡ 0
  all_second : count_by q cs ≡ length cs
  none_first : count_by p cs ≡ 0

kinds_turned : (p q : ℕ → Bool) (os bs cs : List ℕ) → AreKinds p q os bs cs → AreKinds q p os cs bs
kinds_turned p q os bs cs k = record {
  no_first = k.no_second;
  no_second = k.no_first;
  all_first = k.all_second;
  none_second = k.none_first;
  all_second = k.all_first;
  none_first = k.none_second;
}

-- what stands after the first i
length_left : (i : ℕ) (xs : List ℕ) → i ≤ length xs → length (drop i xs) ≡ length xs - i
length_left i xs within = omega (
  arith,
  length-append (take i xs) (drop i xs),
  ap (λ (l : List ℕ). length l) (take-append-drop i xs),
  length-take-le i xs within,
)

-- the one kind begins first
earlier : (p q : ℕ → Bool) (os bs cs : List ℕ) (i j : ℕ) → AreKinds p q os bs cs → i < j → i ≤ length os
    → 0 < length bs → 0 < length cs → j + length cs ≤ length os + length bs + length cs
    → IsArrangement p q os bs cs (Some i) (Some j)
earlier p q os bs cs i j k before within some more room =
    let at : i + (j - i) ≡ j = omega (arith, before) in record {
      codes = arranged os bs cs i (j - i);
      counts = λ r. count_arranged r os bs cs i (j - i);
      first = first_arranged p os bs cs i (j - i) k.no_first within (omega (arith, before)) some k.all_first;
      second = second_arranged q os bs cs i (j - i) k.no_second k.none_second within
          (omega (arith, before, within, room)) more k.all_second (length_left i os within)
          ∙ ap (λ (n : ℕ). Some n) at;
    }

-- there is one kind alone
only_one : (p q : ℕ → Bool) (os bs cs : List ℕ) (i : ℕ) → AreKinds p q os bs cs → length cs ≡ 0 → i ≤ length os
    → 0 < length bs → IsArrangement p q os bs cs (Some i) None
only_one p q os bs cs i k none within some = record {
  codes = arranged os bs cs i 1;
  counts = λ r. count_arranged r os bs cs i 1;
  first = first_arranged p os bs cs i 1 k.no_first within (omega arith) some k.all_first;
  second = none_placed q (arranged os bs cs i 1) (omega (
    arith,
    count_arranged q os bs cs i 1,
    k.no_second,
    k.none_second,
    k.all_second,
    none,
  ));
}

-- first places that fit are those of some codes
placed : (p q : ℕ → Bool) (os bs cs : List ℕ) (n : ℕ) (f g : Option ℕ) → AreKinds p q os bs cs
    → n ≡ length os + length bs + length cs → IsFirstOf (length bs) n f → IsFirstOf (length cs) n g
    → AreApart (length os) f g → IsArrangement p q os bs cs f g
placed p q os bs cs n None None k all first second apart = record {
  codes = arranged os bs cs 0 0;
  counts = λ r. count_arranged r os bs cs 0 0;
  first = none_placed p (arranged os bs cs 0 0) (omega (
    arith,
    count_arranged p os bs cs 0 0,
    k.no_first,
    k.all_first,
    k.none_first,
    first,
  ));
  second = none_placed q (arranged os bs cs 0 0) (omega (
    arith,
    count_arranged q os bs cs 0 0,
    k.no_second,
    k.none_second,
    k.all_second,
    second,
  ));
}
placed p q os bs cs n (Some i) None k all first second apart =
    only_one p q os bs cs i k second (omega (arith, all, first.1, second)) first.0
placed p q os bs cs n None (Some j) k all first second apart =
    turned p q os bs cs None (Some j)
    (only_one q p os cs bs j (kinds_turned p q os bs cs k) first (omega (arith, all, second.1, first)) second.0)
placed p q os bs cs n (Some i) (Some j) k all first second apart = elim (cases_lt i j) [
  | inl before ↦ earlier p q os bs cs i j k before (low_first before apart.1) first.0 second.0
      (omega (arith, all, second.1))
  | inr not ↦ elim (cases_lt j i) [
    | inl before ↦ turned p q os bs cs (Some i) (Some j)
        (earlier q p os cs bs j i (kinds_turned p q os bs cs k) before (low_second before apart.1) second.0 first.0
        (omega (arith, all, first.1)))
    | inr nor ↦ absurd (apart.0 (omega (arith, not, nor)))
  ]
]
  where
    low_first : i < j → (i ≤ length os) ⊎ (j ≤ length os) → i ≤ length os
    low_first before low = elim low [
      | inl is ↦ is
      | inr is ↦ omega (arith, is, before)
    ]

    low_second : j < i → (i ≤ length os) ⊎ (j ≤ length os) → j ≤ length os
    low_second before low = elim low [
      | inl is ↦ omega (arith, is, before)
      | inr is ↦ is
    ]

-- ---- the codes of a ledger

-- of a cycle
cycle_violates : (n : ℕ) → n ≤ LONG_CYCLE → is_violation (CYCLE + n) ≡ true
cycle_violates n within = grind (arith, nat_tests)

cycle_judged : (n : ℕ) → n ≤ LONG_CYCLE → is_unjudged (CYCLE + n) ≡ false
cycle_judged n within = grind (arith, nat_tests)

cycle_unordered : (n : ℕ) → n ≤ LONG_CYCLE → is_ordered (CYCLE + n) ≡ false
cycle_unordered n within = grind (arith, nat_tests)

cycle_no_overlook : (n : ℕ) → n ≤ LONG_CYCLE → is_overlook (CYCLE + n) ≡ false
cycle_no_overlook n within = grind (arith, nat_tests)

-- no code of an overlook, of an order or of an unfinished run is that of a cycle
overlook_no_cycle : (n : ℕ) → n ≤ LONG_CYCLE → is_cycle_of n OVERLOOK ≡ false
overlook_no_cycle n within = ne_eqb _ _ (λ e. omega (arith, e, within))

ordered_no_cycle : (n : ℕ) → is_cycle_of n ORDERED ≡ false
ordered_no_cycle n = ne_eqb _ _ (λ e. omega (arith, e))

unfinished_no_cycle : (n : ℕ) → is_cycle_of n UNFINISHED ≡ false
unfinished_no_cycle n = ne_eqb _ _ (λ e. omega (arith, e))

-- the violations: overlooks, and cycles of each length
violation_codes : ℕ → List ℕ → List ℕ
violation_codes overlook counts = replicate overlook OVERLOOK ++ cycle_codes counts (LONG_CYCLE + 1)

-- a count of them
count_violations : (p : ℕ → Bool) (overlook : ℕ) (counts : List ℕ) → count_by p (violation_codes overlook counts)
    ≡ count_by p (replicate overlook OVERLOOK) + count_by p (cycle_codes counts (LONG_CYCLE + 1))
unfolding violation_codes
count_violations p overlook counts = count_append p (replicate overlook OVERLOOK) (cycle_codes counts (LONG_CYCLE + 1))

length_violations : (overlook : ℕ) (counts : List ℕ) → length counts ≡ LONG_CYCLE + 1
    → length (violation_codes overlook counts) ≡ overlook + sum counts
unfolding violation_codes
length_violations overlook counts size = omega (
  arith,
  length-append (replicate overlook OVERLOOK) (cycle_codes counts (LONG_CYCLE + 1)),
  length-replicate {A = ℕ} overlook OVERLOOK,
  length_cycles counts (LONG_CYCLE + 1) (omega (arith, size)),
  ap (λ (l : List ℕ). sum l) (take_all (LONG_CYCLE + 1) counts (omega (arith, size))),
)

-- they are all violations
violation_all : (overlook : ℕ) (counts : List ℕ)
    → count_by is_violation (violation_codes overlook counts) ≡ length (violation_codes overlook counts)
unfolding violation_codes
violation_all overlook counts = omega (
  arith,
  count_violations is_violation overlook counts,
  count_replicate_yes is_violation overlook OVERLOOK refl,
  cycles_pass is_violation cycle_violates counts (LONG_CYCLE + 1) (omega arith),
  length-append (replicate overlook OVERLOOK) (cycle_codes counts (LONG_CYCLE + 1)),
  length-replicate {A = ℕ} overlook OVERLOOK,
)

-- counts that add up, with first places that fit them, are those of some codes
pub fitting_has_codes : EveryFittingLedgerHasCodes
fitting_has_codes l size sums fits =
    let counts : List ℕ = l.cycles.items in
    let os : List ℕ = replicate l.ordered ORDERED in
    let vs : List ℕ = violation_codes l.overlook counts in
    let us : List ℕ = replicate l.unjudged UNFINISHED in
    let ordered : length os ≡ l.ordered = length-replicate {A = ℕ} l.ordered ORDERED in
    let violated : length vs ≡ violation_count l = length_violations l.overlook counts size in
    let unjudged : length us ≡ l.unjudged = length-replicate {A = ℕ} l.unjudged UNFINISHED in
    let kinds : AreKinds is_violation is_unjudged os vs us = record {
      no_first = count_replicate_no is_violation l.ordered ORDERED refl;
      no_second = count_replicate_no is_unjudged l.ordered ORDERED refl;
      all_first = violation_all l.overlook counts;
      none_second = omega (
        arith,
        count_violations is_unjudged l.overlook counts,
        count_replicate_no is_unjudged l.overlook OVERLOOK refl,
        cycles_fail is_unjudged cycle_judged counts (LONG_CYCLE + 1) (omega arith),
      );
      all_second = count_replicate_yes is_unjudged l.unjudged UNFINISHED refl ∙ sym unjudged;
      none_first = count_replicate_no is_violation l.unjudged UNFINISHED refl;
    } in
    let a : IsArrangement is_violation is_unjudged os vs us l.first l.first_unjudged =
    placed is_violation is_unjudged os vs us l.total l.first l.first_unjudged kinds
    (omega (arith, sums, ordered, violated, unjudged))
    (subst (λ (n : ℕ). IsFirstOf n l.total l.first) (sym violated) fits.violation)
    (subst (λ (n : ℕ). IsFirstOf n l.total l.first_unjudged) (sym unjudged) fits.unjudged)
    (subst (λ (n : ℕ). AreApart n l.first l.first_unjudged) (sym ordered) fits.apart) in record {
      codes = a.codes;
      is = record {
        total = omega (
          arith,
          count_three is_violation is_unjudged is_ordered one_kind a.codes,
          count_three is_violation is_unjudged is_ordered one_kind os,
          count_three is_violation is_unjudged is_ordered one_kind vs,
          count_three is_violation is_unjudged is_ordered one_kind us,
          a.counts is_violation,
          a.counts is_unjudged,
          a.counts is_ordered,
          sums,
          ordered,
          violated,
          unjudged,
        );
        ordered = omega (
          arith,
          a.counts is_ordered,
          count_replicate_yes is_ordered l.ordered ORDERED refl,
          count_violations is_ordered l.overlook counts,
          count_replicate_no is_ordered l.overlook OVERLOOK refl,
          cycles_fail is_ordered cycle_unordered counts (LONG_CYCLE + 1) (omega arith),
          count_replicate_no is_ordered l.unjudged UNFINISHED refl,
        );
        unjudged = omega (
          arith,
          a.counts is_unjudged,
          kinds.no_second,
          kinds.none_second,
          count_replicate_yes is_unjudged l.unjudged UNFINISHED refl,
        );
        overlook = omega (
          arith,
          a.counts is_overlook,
          count_replicate_no is_overlook l.ordered ORDERED refl,
          count_violations is_overlook l.overlook counts,
          count_replicate_yes is_overlook l.overlook OVERLOOK refl,
          cycles_fail is_overlook cycle_no_overlook counts (LONG_CYCLE + 1) (omega arith),
          count_replicate_no is_overlook l.unjudged UNFINISHED refl,
        );
        lengths = size;
        cycles = λ n within. omega (
          arith,
          a.counts (is_cycle_of n),
          count_replicate_no (is_cycle_of n) l.ordered ORDERED (ordered_no_cycle n),
          count_violations (is_cycle_of n) l.overlook counts,
          count_replicate_no (is_cycle_of n) l.overlook OVERLOOK (overlook_no_cycle n within),
          cycles_counted n counts (LONG_CYCLE + 1) (omega (arith, within)),
          count_replicate_no (is_cycle_of n) l.unjudged UNFINISHED (unfinished_no_cycle n),
        );
        first = sym a.first;
        first_unjudged = sym a.second;
      };
    }
