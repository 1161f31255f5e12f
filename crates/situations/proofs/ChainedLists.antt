-- Chains of lists, of which one is put before the others in its bucket.
use Rattle.std.proofs.Common.{◌≡◌, ◌≢◌, ◌<◌, ◌≤◌, ◌+◌, ◌==◌, ◌∙◌, inl, inr, ℕ, zero, suc, Bool, true, false, cond}
use Rattle.std.proofs.Common.{List, []}
use Rattle.std.proofs.Common.{◌∷◌, ◌++◌, length, get_or, slice_set, arith, refl, sym, ap, replicate}
use Rattle.std.proofs.Common.{get_or-set_other, get_or-set_same, length-append, length-set}
use Rattle.std.specs.List.{Contains, list_any}
use Rattle.std.specs.Cmp.Lexicographic.{same_text}
use Rattle.std.proofs.lemmas.Cmp.{nat_list_eq_equiv}
use Rattle.std.proofs.lemmas.Map.Views.{Contains-from_any, list_any-from_Contains}
use Rattle.std.proofs.lemmas.Bool.{cases_lt, cases_eq, eq-eqb, eqb-true, ne_eqb}
use Rattle.std.proofs.lemmas.List.{get_or_append_left}
use Rattle.std.proofs.lemmas.List.{get_or-replicate}
use Rattle.situations.specs.Chains.{AreChained, bucket_of, last_in, same_list, with_list}

module _ (size : ℕ) (lists : List (List ℕ)) (b : ℕ) where
  -- the last of a bucket is one of the first n
  pub last_few : (n : ℕ) → last_in size lists b n ≤ n
  last_few zero = omega arith
  last_few (suc n) = go (bucket_of size (get_or lists n []) == b) (last_few n)
    where
      go : (q : Bool) → last_in size lists b n ≤ n → cond q (suc n) (last_in size lists b n) ≤ suc n
      go true rest = omega arith
      go false rest = omega (arith, rest)

  -- and in the bucket
  pub last_is : (n i : ℕ) → last_in size lists b n ≡ suc i → bucket_of size (get_or lists i []) ≡ b
  last_is zero i is = absurd (omega (arith, is))
  last_is (suc n) i is = go (bucket_of size (get_or lists n []) == b) refl (last_is n i) is
    where
      go : (q : Bool) → (bucket_of size (get_or lists n []) == b) ≡ q
          → (last_in size lists b n ≡ suc i → bucket_of size (get_or lists i []) ≡ b)
          → cond q (suc n) (last_in size lists b n) ≡ suc i → bucket_of size (get_or lists i []) ≡ b
      go true found rest here =
          let same : n ≡ i = omega (arith, here) in
          ap (λ (k : ℕ). bucket_of size (get_or lists k [])) (sym same)
          ∙ eqb-true (bucket_of size (get_or lists n [])) b found
      go false found rest earlier = rest earlier

  -- none after it is
  pub none_after : (n j : ℕ) → last_in size lists b n ≤ j → j < n → bucket_of size (get_or lists j []) ≢ b
  none_after zero j past low = absurd (omega (arith, low))
  none_after (suc n) j past low = go (bucket_of size (get_or lists n []) == b) refl (none_after n j) past
    where
      go : (q : Bool) → (bucket_of size (get_or lists n []) == b) ≡ q
          → (last_in size lists b n ≤ j → j < n → bucket_of size (get_or lists j []) ≢ b)
          → cond q (suc n) (last_in size lists b n) ≤ j → bucket_of size (get_or lists j []) ≢ b
      go true found rest here = absurd (omega (arith, here, low))
      go false found rest earlier = elim (cases_lt j n) [
        | inl less ↦ rest earlier less
        | inr same ↦ λ is.
            let one : j ≡ n = omega (arith, same, low) in
            let clash : true ≡ false = sym (eq-eqb (bucket_of size (get_or lists n [])) b
            (ap (λ (k : ℕ). bucket_of size (get_or lists k [])) (sym one) ∙ is)) ∙ found in
            absurd cc
      ]

  -- more lists change nothing
  pub last_same : (more : List (List ℕ)) (n : ℕ) → n ≤ length lists
      → last_in size (lists ++ more) b n ≡ last_in size lists b n
  last_same more zero low = refl
  last_same more (suc n) low =
      ap (λ (l : List ℕ). cond (bucket_of size l == b) (suc n) (last_in size (lists ++ more) b n))
      (get_or_append_left lists more [] n (omega (arith, low)))
      ∙ ap (cond (bucket_of size (get_or lists n []) == b) (suc n)) (last_same more n (omega (arith, low)))

-- Chains

-- none is linked yet
pub none_chained : (lists : List (List ℕ)) (heads next : List ℕ) → 0 < length heads
    → heads ≡ replicate (length heads) 0 → AreChained lists 0 heads next
none_chained lists heads next some empty = record {
  some = some;
  head = λ b low. ap (λ (l : List ℕ). get_or l b 0) empty ∙ get_or-replicate (length heads) b 0 0 low;
  room = omega arith;
  before = λ i low. absurd (omega (arith, low));
}

-- with room for one more
pub more_room : (lists : List (List ℕ)) (n x : ℕ) (heads next longer : List ℕ) → AreChained lists n heads next
    → longer ≡ next ++ x ∷ [] → AreChained lists n heads longer
more_room lists n x heads next longer old is = record {
  some = old.some;
  head = old.head;
  room = omega (arith, old.room, ap (λ (l : List ℕ). length l) is, length-append next (x ∷ []));
  before = λ i low. ap (λ (l : List ℕ). get_or l i 0) is
      ∙ (get_or_append_left next (x ∷ []) 0 i (omega (arith, low, old.room)) ∙ old.before i low);
}

-- with lists that are not linked yet
pub chained_before : (lists more : List (List ℕ)) (heads next : List ℕ) → AreChained lists (length lists) heads next
    → AreChained (lists ++ more) (length lists) heads next
chained_before lists more heads next old =
    let size : ℕ = length heads in
    record {
      some = old.some;
      head = λ b low. old.head b low ∙ sym (last_same size lists b more (length lists) (omega arith));
      room = old.room;
      before = λ i low.
          let own : get_or (lists ++ more) i [] ≡ get_or lists i [] = get_or_append_left lists more [] i low in
          old.before i low
          ∙ (sym (last_same size lists (bucket_of size (get_or lists i [])) more i (omega (arith, low)))
          ∙ ap (λ (l : List ℕ). last_in size (lists ++ more) (bucket_of size l) i) (sym own));
    }

-- the next list is linked
pub one_linked : (lists : List (List ℕ)) (n : ℕ) (list heads next newer longer : List ℕ)
    → AreChained lists n heads next → get_or lists n [] ≡ list → n < length next
    → bucket_of (length heads) list < length heads
    → newer ≡ slice_set heads (bucket_of (length heads) list) (n + 1)
    → longer ≡ slice_set next n (get_or heads (bucket_of (length heads) list) 0)
    → AreChained lists (n + 1) newer longer
one_linked lists n list heads next newer longer old own room within is linked =
    let size : ℕ = length heads in
    let b : ℕ = bucket_of size list in
    let more : suc n ≡ n + 1 = omega arith in
    let same : length newer ≡ size = ap (λ (l : List ℕ). length l) is ∙ length-set heads b (n + 1) in
    let long : length longer ≡ length next =
    ap (λ (l : List ℕ). length l) linked ∙ length-set next n (get_or heads b 0) in
    let here : bucket_of size (get_or lists n []) ≡ b = ap (bucket_of size) own in
    record {
      some = omega (arith, old.some, same);
      head = λ k low.
          ap (λ (l : List ℕ). get_or l k 0) is
          ∙ (elim (cases_eq k b) [
            | inl in_it ↦
                ap (λ (m : ℕ). get_or (slice_set heads b (n + 1)) m 0) in_it
                ∙ (get_or-set_same heads b (n + 1) 0 within
                ∙ sym (ap (λ (m : ℕ). last_in size lists m (n + 1)) in_it
                ∙ (ap (last_in size lists b) (sym more)
                ∙ (ap (λ (q : Bool). cond q (suc n) (last_in size lists b n))
                (eq-eqb (bucket_of size (get_or lists n [])) b here) ∙ more))))
            | inr away ↦
                get_or-set_other heads b k (n + 1) 0 away
                ∙ (old.head k (omega (arith, low, same))
                ∙ sym (ap (last_in size lists k) (sym more)
                ∙ ap (λ (q : Bool). cond q (suc n) (last_in size lists k n))
                (ne_eqb (bucket_of size (get_or lists n [])) k (λ found. away (sym found ∙ here)))))
          ] ∙ ap (λ (s : ℕ). last_in s lists k (n + 1)) (sym same));
      room = omega (arith, room, long);
      before = λ i low.
          ap (λ (l : List ℕ). get_or l i 0) linked
          ∙ (elim (cases_eq i n) [
            | inl new ↦
                ap (λ (m : ℕ). get_or (slice_set next n (get_or heads b 0)) m 0) new
                ∙ (get_or-set_same next n (get_or heads b 0) 0 room
                ∙ (old.head b within
                ∙ (ap (λ (m : ℕ). last_in size lists m n) (sym here)
                ∙ ap (λ (m : ℕ). last_in size lists (bucket_of size (get_or lists m [])) m) (sym new))))
            | inr older ↦
                get_or-set_other next n i (get_or heads b 0) 0 older ∙ old.before i (omega (arith, low, older))
          ] ∙ ap (λ (s : ℕ). last_in s lists (bucket_of s (get_or lists i [])) i) (sym same));
    }

-- A walk along the chain of a list's bucket

pub record IsWalk (lists : List (List ℕ)) (size : ℕ) (list : List ℕ) (at : ℕ) : Type 0 where
  pub few : at ≤ length lists
  pub own : (i : ℕ) → at ≡ suc i → bucket_of size (get_or lists i []) ≡ bucket_of size list
  pub tested : (j : ℕ) → at ≤ j → j < length lists → bucket_of size (get_or lists j []) ≡ bucket_of size list
      → get_or lists j [] ≢ list

module _ (lists : List (List ℕ)) (heads next list : List ℕ) (chained : AreChained lists (length lists) heads next) where
  -- it begins at the head
  pub walk_begun : (at : ℕ) → bucket_of (length heads) list < length heads
      → at ≡ get_or heads (bucket_of (length heads) list) 0 → IsWalk lists (length heads) list at
  walk_begun at within is =
      let size : ℕ = length heads in
      let b : ℕ = bucket_of size list in
      let last : at ≡ last_in size lists b (length lists) = is ∙ chained.head b within in
      record {
        few = omega (arith, last, last_few size lists b (length lists));
        own = λ i here. last_is size lists b (length lists) i (sym last ∙ here);
        tested = λ j past low same is_list.
            none_after size lists b (length lists) j (omega (arith, past, last)) low same;
      }

  -- and goes on to the one before, where this one is another
  pub walk_on : (at i to : ℕ) → IsWalk lists (length heads) list at → at ≡ suc i → get_or lists i [] ≢ list
      → to ≡ get_or next i 0 → IsWalk lists (length heads) list to
  walk_on at i to old here other is =
      let size : ℕ = length heads in
      let b : ℕ = bucket_of size list in
      let inside : i < length lists = omega (arith, here, old.few) in
      let own : bucket_of size (get_or lists i []) ≡ b = old.own i here in
      let last : to ≡ last_in size lists b i =
      is ∙ (chained.before i inside ∙ ap (λ (m : ℕ). last_in size lists m i) own) in
      record {
        few = omega (arith, last, last_few size lists b i, inside);
        own = λ k found. last_is size lists b i k (sym last ∙ found);
        tested = λ j past low same is_list. elim (cases_lt j i) [
          | inl before ↦ none_after size lists b i j (omega (arith, past, last)) before same
          | inr since ↦ elim (cases_eq j i) [
            | inl now ↦ other (ap (λ (k : ℕ). get_or lists k []) (sym now) ∙ is_list)
            | inr later ↦ old.tested j (omega (arith, since, later, here)) low same is_list
          ]
        ];
      }

  -- at its end the list is not there
  pub walk_done : IsWalk lists (length heads) list 0 → Contains lists list → ⊥
  walk_done walk there =
      let is : get_or lists there.0 [] ≡ list = get_or_default lists there.0 list there.1 ∙ there.2 in
      walk.tested there.0 (omega arith) there.1 (ap (bucket_of (length heads)) is) is
    where
      get_or_default : (ls : List (List ℕ)) (i : ℕ) (d : List ℕ) → i < length ls → get_or ls i [] ≡ get_or ls i d
      get_or_default [] i d low = absurd (omega (arith, low))
      get_or_default (l ∷ ls) zero d low = refl
      get_or_default (l ∷ ls) (suc i) d low = get_or_default ls i d (omega (arith, low))

-- Sets of lists

-- what is there is not added
pub with_known : (lists : List (List ℕ)) (list : List ℕ) → Contains lists list → with_list lists list ≡ lists
with_known lists list there =
    ap (λ (q : Bool). cond q lists (lists ++ list ∷ [])) (list_any-from_Contains nat_list_eq_equiv list lists there)

-- what is not there is
pub with_new : (lists : List (List ℕ)) (list : List ℕ) → (Contains lists list → ⊥)
    → with_list lists list ≡ lists ++ list ∷ []
with_new lists list none = go (list_any (same_list list) lists) refl
  where
    go : (q : Bool) → list_any (same_list list) lists ≡ q → cond q lists (lists ++ list ∷ []) ≡ lists ++ list ∷ []
    go true found = absurd (none (Contains-from_any (λ x y h. same_text x y (sym h)) list lists found))
    go false found = refl
