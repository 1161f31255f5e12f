-- How far a situation is: each move goes on.
use Rattle.std.proofs.Common.{◌≡◌, ◌<◌, ◌≤◌, ◌+◌, ◌-◌, inl, inr, ℕ, zero, suc, List, [], ◌∷◌, map, length, get_or}
use Rattle.std.proofs.Common.{Some, arith, sym, ap, subst, ◌∙◌, length-set, get_or-set_same, get_or-set_other}
use Rattle.std.specs.List.{sum}
use Rattle.std.proofs.Math.ListN as lists
use Rattle.std.proofs.lemmas.Bool.{cases_eq, cases_lt}
use Rattle.std.proofs.lemmas.List.{get_or_past, length-map}
use Rattle.std.proofs.lemmas.List.Sums.{sum_by-cons}
use Rattle.recording.specs.declared.event.Event.{Event}
use Rattle.completion.specs.declared.moves.Move.{Move}
use Rattle.completion.specs.declared.moves.Move.TheVariants.{Modify, Drain}
use Rattle.values.specs.Values.{Values}
use Rattle.completion.specs.Situation.{events_of, settled, moved, beginning}
use Rattle.situations.specs.Situation.{Situation, place_of, drained_of}
use Rattle.completion.specs.Situation.{marked, mark_of}
use Rattle.situations.specs.Situation.{with_drained, with_place}
use Rattle.completion.specs.Situation.{with_write}
use Rattle.completion.specs.Reachable.{Leads, here, further}
use Rattle.completion.proofs.Moved.{Modifies, Drains, moved_modify, moved_drain}
use Rattle.completion.proofs.Places.{IsFit, settles, settled_fit, blank, blank_fit}

-- Sums

sum_first : (x : ℕ) (xs : List ℕ) → sum (x ∷ xs) ≡ x + sum xs
sum_first x xs = sum_by-cons (λ (n : ℕ). n) x xs

-- of numbers that are no less
sum_le : (xs ys : List ℕ) → length xs ≡ length ys → ((i : ℕ) → get_or xs i 0 ≤ get_or ys i 0) → sum xs ≤ sum ys
sum_le [] [] size le = omega arith
sum_le [] (y ∷ ys) size le = absurd (omega (arith, size))
sum_le (x ∷ xs) [] size le = absurd (omega (arith, size))
sum_le (x ∷ xs) (y ∷ ys) size le =
    omega (arith, sum_first x xs, sum_first y ys, le 0, sum_le xs ys (omega (arith, size)) (λ i. le (suc i)))

-- of which one is more
sum_less : (xs ys : List ℕ) (n : ℕ) → length xs ≡ length ys → ((i : ℕ) → get_or xs i 0 ≤ get_or ys i 0)
    → n < length xs → get_or xs n 0 < get_or ys n 0 → sum xs < sum ys
sum_less [] ys n size le inside less = absurd (omega (arith, inside))
sum_less (x ∷ xs) [] n size le inside less = absurd (omega (arith, size))
sum_less (x ∷ xs) (y ∷ ys) zero size le inside less =
    omega (arith, sum_first x xs, sum_first y ys, less, sum_le xs ys (omega (arith, size)) (λ i. le (suc i)))
sum_less (x ∷ xs) (y ∷ ys) (suc n) size le inside less = omega (
  arith,
  sum_first x xs,
  sum_first y ys,
  le 0,
  sum_less xs ys n (omega (arith, size)) (λ i. le (suc i)) (omega (arith, inside)) less,
)

-- How far a situation is

-- how far it is
abbrev pub rank : Situation → ℕ
rank s = sum s.places + sum s.drained

-- how far it can be
abbrev pub most_rank : Values → ℕ
most_rank v = sum (map (λ es. length es) v.cores) + sum (map (λ es. length es) v.cores)

-- how many events a core has
count_at : (v : Values) (c : ℕ) → get_or (map (λ es. length es) v.cores) c 0 ≡ length (events_of v.cores c)
count_at v c = lists.get_or-map (λ (es : List Event). length es) v.cores c []

pub rank_within : (v : Values) (s : Situation) → IsFit v s → rank s ≤ most_rank v
rank_within v s h =
    let size : length (map (λ (es : List Event). length es) v.cores) ≡ length v.cores =
    length-map v.cores (λ (es : List Event). length es) in
    omega (
      arith,
      sum_le s.places (map (λ es. length es) v.cores) (h.places ∙ sym size)
          (λ c. omega (arith, h.within c, count_at v c)),
      sum_le s.drained (map (λ es. length es) v.cores) (h.drained ∙ sym size)
          (λ c. omega (arith, h.low c, h.within c, count_at v c)),
    )

-- a core with an event is there
pub core_there : (v : Values) (c j : ℕ) → j < length (events_of v.cores c) → c < length v.cores
core_there v c j inside = elim (cases_lt c (length v.cores)) [
  | inl there ↦ there
  | inr past ↦ absurd (omega (
    arith,
    inside,
    ap (λ (l : List Event). length l) (get_or_past v.cores c [] past),
  ))
]

-- a number of a list that grows at one place
set_more : (xs : List ℕ) (c n i : ℕ) → c < length xs → get_or xs c 0 ≤ n → get_or xs i 0 ≤ get_or (lists.set xs c n) i 0
set_more xs c n i inside less = elim (cases_eq i c) [
  | inl one ↦ omega (
    arith,
    less,
    get_or-set_same xs c n 0 inside,
    ap (λ (k : ℕ). get_or (lists.set xs c n) k 0) one,
    ap (λ (k : ℕ). get_or xs k 0) one,
  )
  | inr other ↦ omega (arith, get_or-set_other xs c i n 0 other)
]

-- what a move leads to is fit and further
pub record GoesOn (v : Values) (s t : Situation) : Type 0 where
  pub fit : IsFit v t
  pub more : rank s < rank t

-- before free steps, too
module _ (v : Values) (s : Situation) (c : ℕ) (h : IsFit v s) (a w k : ℕ) where
  pub placed_fit : place_of s c < length (events_of v.cores c)
      → IsFit v (with_write (with_place s c (place_of s c + 1)) a w k)
  placed_fit inside =
      let core : c < length v.cores = core_there v c (place_of s c) inside in
      let at : c < length s.places = omega (arith, core, h.places) in record {
        places = length-set s.places c (place_of s c + 1) ∙ h.places;
        drained = h.drained;
        low = λ d. omega (arith, h.low d, set_more s.places c (place_of s c + 1) d at (omega arith));
        within = λ d. elim (cases_eq d c) [
          | inl one ↦ omega (
            arith,
            get_or-set_same s.places c (place_of s c + 1) 0 at,
            inside,
            ap (place_of (with_place s c (place_of s c + 1))) one,
            ap (λ (n : ℕ). length (events_of v.cores n)) one,
          )
          | inr apart ↦ omega (arith, get_or-set_other s.places c d (place_of s c + 1) 0 apart, h.within d)
        ];
      }

  pub drained_fit : (j : ℕ) → j < place_of s c → j < length (events_of v.cores c)
      → IsFit v (with_write (with_drained s c (j + 1)) a w k)
  drained_fit j to inside =
      let core : c < length v.cores = core_there v c j inside in
      let at : c < length s.drained = omega (arith, core, h.drained) in record {
        places = h.places;
        drained = length-set s.drained c (j + 1) ∙ h.drained;
        low = λ d. elim (cases_eq d c) [
          | inl one ↦ omega (
            arith,
            get_or-set_same s.drained c (j + 1) 0 at,
            to,
            ap (drained_of (with_drained s c (j + 1))) one,
            ap (place_of s) one,
          )
          | inr apart ↦ omega (arith, get_or-set_other s.drained c d (j + 1) 0 apart, h.low d)
        ];
        within = h.within;
      }

module _ (v : Values) (s t : Situation) (c : ℕ) (h : IsFit v s) where
  modifies_on : Modifies v s c t → GoesOn v s t
  modifies_on m =
      let k : ℕ = place_of s c in
      let at : c < length s.places = omega (arith, core_there v c k m.inside, h.places) in
      let u : Situation = with_write (with_place s c (k + 1)) m.a m.w (marked v (mark_of v c k)) in
      let own : place_of u c ≡ k + 1 = get_or-set_same s.places c (k + 1) 0 at in
      let fit : IsFit v u = placed_fit v s c h m.a m.w (marked v (mark_of v c k)) m.inside in
      subst (GoesOn v s) (sym m.is) (record {
        fit = settled_fit v u fit;
        more =
            let less : sum s.places < sum (settled v u).places =
            sum_less s.places (settled v u).places c (h.places ∙ sym (settled_fit v u fit).places)
            (λ d. omega (arith, set_more s.places c (k + 1) d at (omega arith), (settles v u fit d).from)) at
            (omega (arith, own, (settles v u fit c).from)) in
            omega (arith, less);
      })

  drains_on : Drains v s c t → GoesOn v s t
  drains_on m =
      let j : ℕ = m.store.place in
      let at : c < length s.drained = omega (arith, core_there v c j m.next.inside, h.drained) in
      let u : Situation =
      with_write (with_drained s c (j + 1)) m.store.address m.store.value (marked v (mark_of v c j)) in
      let own : drained_of u c ≡ j + 1 = get_or-set_same s.drained c (j + 1) 0 at in
      let fit : IsFit v u =
      drained_fit v s c h m.store.address m.store.value (marked v (mark_of v c j)) j m.next.to m.next.inside in
      subst (GoesOn v s) (sym m.is) (record {
        fit = settled_fit v u fit;
        more =
            let less : sum s.drained < sum (settled v u).drained =
            sum_less s.drained (lists.set s.drained c (j + 1)) c (sym (length-set s.drained c (j + 1)))
            (λ d. set_more s.drained c (j + 1) d at (omega (arith, m.next.from))) at (omega (arith, own, m.next.from)) in
            let le : sum s.places ≤ sum (settled v u).places =
            sum_le s.places (settled v u).places (h.places ∙ sym (settled_fit v u fit).places)
            (λ d. (settles v u fit d).from) in
            omega (arith, less, le);
      })

  pub goes_on : (move : Move) → moved v s move c ≡ Some t → GoesOn v s t
  goes_on Modify is = modifies_on (moved_modify v s c t is)
  goes_on Drain is = drains_on (moved_drain v s c t is)

-- What moves lead to

pub beginning_fit : (v : Values) → IsFit v (beginning v)
beginning_fit v = settled_fit v (blank v) (blank_fit v)

-- so is whatever moves lead to
pub led_fit : (v : Values) (r z : Situation) → IsFit v r → Leads v r z → IsFit v z
led_fit v r z h here = h
led_fit v r z h (further s t move c led is) = (goes_on v s t c (led_fit v r s h led) move is).fit

-- so a move from there goes on
pub further_on : (v : Values) (s t : Situation) (move : Move) (c : ℕ) → Leads v (beginning v) s
    → moved v s move c ≡ Some t → most_rank v + 1 - rank t < most_rank v + 1 - rank s
further_on v s t move c led is =
    let on = goes_on v s t c (led_fit v (beginning v) s (beginning_fit v) led) move is in
    omega (arith, on.more, rank_within v t on.fit)
