-- What moves lead to.
use Rattle.std.proofs.Common.{◌≡◌, ◌<◌, ◌≤◌, ◌+◌, ◌-◌, ◌==◌, ◌&&◌, ◌⊎◌, inl, inr, ℕ, zero, suc, Bool, true, false, cond}
use Rattle.std.proofs.Common.{Option, Some, None, List, [], ◌∷◌, min, take, length, get_or, slice_get, slice_index}
use Rattle.std.proofs.Common.{arith, refl}
use Rattle.std.proofs.Common.{ap, sym, ◌∙◌}
use Rattle.std.proofs.lemmas.Bool.{and_parts, eqb-true}
use Rattle.std.proofs.lemmas.List.{length-drop, length-take}
use Rattle.std.proofs.lemmas.Option.{same_Some, slice_get_cases, get_or_from_slice_get}
use Rattle.recording.specs.declared.event.Event.{Event}
use Rattle.recording.specs.declared.event.Event.TheVariants.{L, S, R, C, F}
use Rattle.recording.specs.Event.{is_plain_store}
use Rattle.completion.specs.declared.moves.Move.TheVariants.{Modify, Drain}
use Rattle.situations.specs.declared.waiting.Waiting.{Waiting}
use Rattle.completion.specs.Situation.{drained_by, events_of, moved}
use Rattle.situations.specs.Situation.{drained_of, with_drained}
use Rattle.situations.specs.Step.{stored_by_event}
use Rattle.situations.specs.Waiting.{none_waits, oldest}
use Rattle.situations.proofs.Ranges.{between_at}
use Rattle.values.specs.Values.{Values}
use Rattle.completion.specs.Situation.{may_read, source_at, written}
use Rattle.situations.specs.Situation.{Situation, place_of, waiting, with_place}
use Rattle.completion.specs.Situation.{modified_next}

-- whether core c may read the value r of address a from memory, at place k
abbrev pub may_modify_at : Values → Situation → ℕ → ℕ → ℕ → ℕ → Bool
may_modify_at v s c k a r = none_waits stored_by_event (waiting v.cores s c) && ((slice_index s.memory a == r)
    && may_read (source_at v c k) (slice_index s.notes a))

-- a read-modify-write that may read leads on
pub modified_is : (v : Values) (s u next : Situation) (c a r w : ℕ) (o : Option ℕ) (event : Event)
    → event ≡ R a r o w → may_modify_at v s c (place_of s c) a r ≡ true → u ≡ with_place s c (place_of s c + 1)
    → next ≡ written v u c (place_of s c) a w → Some next ≡ modified_next v s c (Some event)
modified_is v s u next c a r w o event is test before made =
    ap (λ (z : Situation). Some z) (made ∙ ap (λ (z : Situation). written v z c (place_of s c) a w) before)
    ∙ sym (ap (λ (ev : Event). modified_next v s c (Some ev)) is
    ∙ ap (λ (b : Bool). cond b (Some (written v (with_place s c (place_of s c + 1)) c (place_of s c) a w)) None) test)

-- what a move of a read-modify-write does
pub record Modifies (v : Values) (s : Situation) (c : ℕ) (t : Situation) : Type 0 where
  pub a : ℕ
  pub r : ℕ
  pub w : ℕ
  pub o : Option ℕ
  pub inside : place_of s c < length (events_of v.cores c)
  pub event : get_or (events_of v.cores c) (place_of s c) F ≡ R a r o w
  pub none : none_waits stored_by_event (waiting v.cores s c) ≡ true
  pub value : slice_index s.memory a ≡ r
  pub may : may_read (source_at v c (place_of s c)) (slice_index s.notes a) ≡ true
  pub is : t ≡ written v (with_place s c (place_of s c + 1)) c (place_of s c) a w

-- a store is the oldest that waits on its core
pub record IsNextStore (v : Values) (s : Situation) (c : ℕ) (x : Waiting) : Type 0 where
  pub from : drained_of s c ≤ x.place
  pub to : x.place < place_of s c
  pub inside : x.place < length (events_of v.cores c)
  pub event : get_or (events_of v.cores c) x.place F ≡ S x.address x.value
  pub first : (j : ℕ) → drained_of s c ≤ j → j < x.place → is_plain_store (get_or (events_of v.cores c) j F) ≡ false

-- what a move of a waiting store does
pub record Drains (v : Values) (s : Situation) (c : ℕ) (t : Situation) : Type 0 where
  pub store : Waiting
  pub next : IsNextStore v s c store
  pub is : t ≡ written v (with_drained s c (store.place + 1)) c store.place store.address store.value

-- the oldest store of a list stands in it, and no other before it
record IsOldest (l : List Event) (i : ℕ) (x : Waiting) : Type 0 where
  at : ℕ
  inside : at < length l
  place : x.place ≡ i + at
  event : get_or l at F ≡ S x.address x.value
  first : (j : ℕ) → j < at → is_plain_store (get_or l j F) ≡ false

oldest_found : (l : List Event) (i : ℕ) (x : Waiting) → oldest stored_by_event i l ≡ Some x → IsOldest l i x
oldest_found [] i x is = let clash : None ≡ Some x = is in absurd cc
oldest_found (e ∷ l) i x is = go e is (oldest_found l (suc i) x)
  where
    later : (e : Event) → is_plain_store e ≡ false → IsOldest l (suc i) x → IsOldest (e ∷ l) i x
    later e none rest = record {
      at = suc rest.at;
      inside = omega (arith, rest.inside);
      place = omega (arith, rest.place);
      event = rest.event;
      first = λ j below. go j below;
    }
      where
        go : (j : ℕ) → j < suc rest.at → is_plain_store (get_or (e ∷ l) j F) ≡ false
        go zero below = none
        go (suc j) below = rest.first j (omega (arith, below))

    go : (e : Event) → oldest stored_by_event i (e ∷ l) ≡ Some x
        → (oldest stored_by_event (suc i) l ≡ Some x → IsOldest l (suc i) x)
        → IsOldest (e ∷ l) i x
    go (S a w) is rest =
        let same : record { place = i; address = a; value = w } ≡ x = same_Some _ x is in
        record {
          at = 0;
          inside = omega arith;
          place = sym (ap (λ (z : Waiting). z.place) same) ∙ omega arith;
          event = (λ k. S (same k).address (same k).value);
          first = λ j below. absurd (omega (arith, below));
        }
    go (L a r o) is rest = later (L a r o) refl (rest is)
    go (R a r o w) is rest = later (R a r o w) refl (rest is)
    go (C a r o) is rest = later (C a r o) refl (rest is)
    go F is rest = later F refl (rest is)

-- so with those that wait
pub next_store : (v : Values) (s : Situation) (c : ℕ) (x : Waiting)
    → oldest stored_by_event (drained_of s c) (waiting v.cores s c) ≡ Some x → IsNextStore v s c x
next_store v s c x found =
    let es : List Event = events_of v.cores c in
    let old : IsOldest (waiting v.cores s c) (drained_of s c) x =
    oldest_found (waiting v.cores s c) (drained_of s c) x found in
    let d : ℕ = drained_of s c in
    let k : ℕ = place_of s c in
    let known : length (waiting v.cores s c) ≡ min k (length es) - d =
    omega (arith, length-drop d (take k es), length-take k es) in
    let to : d + old.at < k = omega (arith, old.inside, known) in
    let here : d + old.at ≡ x.place = omega (arith, old.place) in
    record {
      from = omega (arith, old.place);
      to = omega (arith, to, old.place);
      inside = omega (arith, old.inside, known, old.place);
      event = ap (λ (n : ℕ). get_or es n F) (sym here) ∙ (sym (between_at es d k old.at F to) ∙ old.event);
      first = λ j low less.
          let apart : d + (j - d) ≡ j = omega (arith, low) in
          ap (λ (n : ℕ). is_plain_store (get_or es n F)) (sym apart)
          ∙ (ap is_plain_store (sym (between_at es d k (j - d) F (omega (arith, low, less, to, old.place))))
          ∙ old.first (j - d) (omega (arith, low, less, old.place)));
    }

module _ (v : Values) (s : Situation) (c : ℕ) (t : Situation) where
  abbrev own : List Event
  own = events_of v.cores c

  pub moved_modify : moved v s Modify c ≡ Some t → Modifies v s c t
  moved_modify is = go (slice_get_cases own (place_of s c)).1 is
    where
      by : (ev : Event) → place_of s c < length own → get_or own (place_of s c) F ≡ ev
          → modified_next v s c (Some ev) ≡ Some t → Modifies v s c t
      by (L a r o) inside at is = let clash : None ≡ Some t = is in absurd cc
      by (S a w) inside at is = let clash : None ≡ Some t = is in absurd cc
      by (C a r o) inside at is = let clash : None ≡ Some t = is in absurd cc
      by F inside at is = let clash : None ≡ Some t = is in absurd cc
      by (R a r o w) inside at is = test (may_modify_at v s c (place_of s c) a r) refl is
        where
          test : (b : Bool) → may_modify_at v s c (place_of s c) a r ≡ b
              → cond b (Some (written v (with_place s c (place_of s c + 1)) c (place_of s c) a w)) None ≡ Some t
              → Modifies v s c t
          test false h is = let clash : None ≡ Some t = is in absurd cc
          test true h is =
              let parts = and_parts (none_waits stored_by_event (waiting v.cores s c)) _ h in
              let more = and_parts (slice_index s.memory a == r) _ parts.1 in
              record {
                a = a;
                r = r;
                w = w;
                o = o;
                inside = inside;
                event = at;
                none = parts.0;
                value = eqb-true (slice_index s.memory a) r more.0;
                may = more.1;
                is = sym (same_Some _ t is);
              }

      go : ((x : Event) × (place_of s c < length own) × (slice_get own (place_of s c) ≡ Some x)
          × (get_or own (place_of s c) x ≡ x)) ⊎ ((length own ≤ place_of s c) × (slice_get own (place_of s c) ≡ None))
          → moved v s Modify c ≡ Some t → Modifies v s c t
      go (inl (x, inside, at, same)) is =
          by x inside (get_or_from_slice_get own (place_of s c) x F at) (ap (modified_next v s c) (sym at) ∙ is)
      go (inr (past, none)) is =
          let clash : None ≡ Some t = ap (modified_next v s c) (sym none) ∙ is in absurd cc

  pub moved_drain : moved v s Drain c ≡ Some t → Drains v s c t
  moved_drain is = go (oldest stored_by_event (drained_of s c) (waiting v.cores s c)) refl is
    where
      go : (o : Option Waiting) → oldest stored_by_event (drained_of s c) (waiting v.cores s c) ≡ o
          → drained_by v s c o ≡ Some t
          → Drains v s c t
      go None none is = let clash : None ≡ Some t = is in absurd cc
      go (Some x) found is = record { store = x; next = next_store v s c x found; is = sym (same_Some _ t is) }
