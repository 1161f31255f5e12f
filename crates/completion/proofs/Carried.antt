-- What cores and memory do next is right.
use Rattle.std.proofs.Common.{◌≡◌, ◌≢◌, ◌<◌, ◌≤◌, ◌+◌, ◌-◌, ◌^◌, ◌==◌, ◌&&◌, ◌⊎◌, ◌↔◌, ◌∙◌, inl, inr, ℕ, Bool, true}
use Rattle.std.proofs.Common.{false, cond, not}
use Rattle.std.proofs.Common.{Option, Some, None, List, [], ◌∷◌, ◌++◌, length, get_or, is_some, slice_index, slice_set}
use Rattle.std.proofs.Common.{arith, refl, sym}
use Rattle.std.proofs.Common.{ap, subst, length-set, get_or-set_same, get_or-set_other}
use Rattle.std.specs.List.{list_any}
use Rattle.std.proofs.lemmas.Bool.{and_parts, cases_eq, cases_lt, eqb-true}
use Rattle.std.proofs.lemmas.List.Folds.{list_any_at}
use Rattle.recording.specs.declared.event.Event.{Event}
use Rattle.recording.specs.declared.event.Event.TheVariants.{L, S, R, C, F}
use Rattle.recording.specs.Event.{is_plain_load, is_plain_store, read_address, value_read, value_written}
use Rattle.recording.specs.Event.{written_address}
use Rattle.recording.specs.EventLaws.{Writes-event}
use Rattle.recording.specs.Execution.{event_at, event_count, Kept, ProgramOrder, Reads, Writes}
use Rattle.recording.specs.Order.{times}
use Rattle.recording.specs.Tso.{Gives}
use Rattle.values.specs.Final.{value_by}
use Rattle.values.specs.Refused.{events_alone}
use Rattle.values.specs.Values.{Values, known_source}
use Rattle.completion.specs.Performed.{IsSourceAfter, IsTrail, last_of, order_after, source_found}
use Rattle.completion.specs.Performed.{sources_after, writers}
use Rattle.completion.specs.Search.{event_of}
use Rattle.completion.specs.Situation.{Memory, events_of, has_mark, is_free, is_free_at, mark, mark_of, mark_read}
use Rattle.situations.specs.Step.{stored_by_event}
use Rattle.situations.specs.Waiting.{between, forwarded, none_waits, youngest}
use Rattle.completion.specs.Situation.{marked, may_read, number_of, source_at}
use Rattle.completion.proofs.Appended.{appended, in_more, last_in, still_in}
use Rattle.completion.proofs.Covers.{write_cases}
use Rattle.situations.proofs.Ranges.{between_at, length_between}
use Rattle.completion.proofs.Lists.{IsYoungest, HasNone, forwarded_cases, youngest_is, youngest_none}
use Rattle.completion.proofs.Numbered.{earlier, event_here, inside_here, one_place, order_here}
use Rattle.completion.proofs.OrderLists.{last_push, last_some, there_writer, writers_more, writers_once, writers_same}

-- where no store waits, none stands
none_stands : (es : List Event) (d k i : ℕ) → none_waits stored_by_event (between es d k) ≡ true → d ≤ i → i < k
    → k ≤ length es → is_plain_store (get_or es i F) ≡ false
none_stands es d k i none from to within = go (is_plain_store (get_or es i F)) refl
  where
    stores : (ev : Event) → is_plain_store ev ≡ true → is_some (stored_by_event ev) ≡ true
    stores (S a w) h = refl
    stores ev h = absurd cc

    go : (b : Bool) → is_plain_store (get_or es i F) ≡ b → is_plain_store (get_or es i F) ≡ false
    go false is = is
    go true is =
        let at : d + (i - d) ≡ i = omega (arith, from) in
        let there : is_some (stored_by_event (get_or (between es d k) (i - d) F)) ≡ true =
        ap (λ (ev : Event). is_some (stored_by_event ev)) (between_at es d k (i - d) F (omega (arith, from, to)))
        ∙ (ap (λ (n : ℕ). is_some (stored_by_event (get_or es n F))) at ∙ stores (get_or es i F) is) in
        let some : list_any (λ ev. is_some (stored_by_event ev)) (between es d k) ≡ true =
        list_any_at (λ ev. is_some (stored_by_event ev)) (between es d k) (i - d) F
        (omega (arith, length_between es d k within, from, to)) there in
        let clash : false ≡ true = sym (ap not some) ∙ none in absurd cc

-- a mark tells its source
mark_same : (v : Values) (s o : Option ℕ) → ((w : ℕ) → s ≡ Some w → w + 2 < 2 ^ 64 - 1) → marked v (mark s) ≡ mark o
    → s ≡ o
mark_same v s o few is = go s o few (by (list_any (has_mark (mark s)) v.sources) is)
  where
    some : (o : Option ℕ) → 0 < mark o
    some None = omega arith
    some (Some w) = omega arith

    by : (b : Bool) → cond b (mark s) 0 ≡ mark o → mark s ≡ mark o
    by true h = h
    by false h = absurd (omega (arith, h, some o))

    go : (s o : Option ℕ) → ((w : ℕ) → s ≡ Some w → w + 2 < 2 ^ 64 - 1) → mark s ≡ mark o → s ≡ o
    go None None few h = refl
    go None (Some u) few h = absurd (omega (arith, h))
    go (Some w) None few h = absurd (omega (arith, h, few w refl))
    go (Some w) (Some u) few h = ap (λ (n : ℕ). Some n) (omega (arith, h, few w refl))

-- what is known of a source is right where its mark may be read
known_right : (v : Values) (e k : ℕ) (s : Option ℕ) → may_read (known_source v e) k ≡ true
    → ((o : Option ℕ) → k ≡ mark o → s ≡ o) → (o : Option ℕ) → known_source v e ≡ Some o → s ≡ o
known_right v e k s may same o is =
    same o (eqb-true k (mark o) (ap (λ (z : Option (Option ℕ)). may_read z k) (sym is) ∙ may))

-- a plain store of an address is one of some value
store_of : (ev : Event) (a : ℕ) → written_address ev ≡ Some a → is_plain_store ev ≡ true → (u : ℕ) × (ev ≡ S a u)
store_of ev a writes store = go (write_cases ev a writes)
  where
    go : ((w : ℕ) × (ev ≡ S a w)) ⊎ (is_plain_store ev ≡ false) → (u : ℕ) × (ev ≡ S a u)
    go (inl is) = is
    go (inr none) = absurd (let clash : false ≡ true = sym none ∙ store in cc)

-- What memory has after a write

module _ (v : Values) (order : List ℕ) (sources : List (Option ℕ)) (at drained : ℕ → ℕ) (memory : Memory)
    (h : IsTrail v order sources at drained memory) (c j a : ℕ) where
  memory_values : (w : ℕ) → Writes (events_alone v) (number_of v.cores c j) a
      → value_written (event_at (events_alone v) (number_of v.cores c j)) ≡ w → (b : ℕ) → b < length v.initial
      → slice_index (slice_set memory.values a w) b
      ≡ value_by (events_alone v) b (last_of (writers v b (order ++ number_of v.cores c j ∷ [])))
  memory_values w writes value b there = elim (cases_eq b a) [
    | inl one ↦
        ap (λ (k : ℕ). slice_index (slice_set memory.values a w) k) one
        ∙ (get_or-set_same memory.values a w 0 (omega (arith, there, one, h.come.values_size))
        ∙ (sym value ∙ ap (value_by (events_alone v) b) (sym (
        ap last_of (writers_more v b (number_of v.cores c j) order
        (subst (Writes (events_alone v) (number_of v.cores c j)) (sym one) writes))
        ∙ last_push (writers v b order) (number_of v.cores c j)))))
    | inr other ↦
        get_or-set_other memory.values a b w 0 other
        ∙ (h.come.values b there ∙ ap (λ (l : List ℕ). value_by (events_alone v) b (last_of l))
        (sym (writers_same v b (number_of v.cores c j) order (λ also. absurd (other
        (let both : Some b ≡ Some a = sym also ∙ writes in cc))))))
  ]

  memory_marks : Writes (events_alone v) (number_of v.cores c j) a → (b : ℕ) → b < length v.initial
      → slice_index (slice_set memory.marks a (marked v (mark_of v c j))) b
      ≡ marked v (mark (last_of (writers v b (order ++ number_of v.cores c j ∷ []))))
  memory_marks writes b there = elim (cases_eq b a) [
    | inl one ↦
        ap (λ (k : ℕ). slice_index (slice_set memory.marks a (marked v (mark_of v c j))) k) one
        ∙ (get_or-set_same memory.marks a (marked v (mark_of v c j)) 0 (omega (arith, there, one, h.come.marks_size))
        ∙ ap (λ (o : Option ℕ). marked v (mark o)) (sym (
        ap last_of (writers_more v b (number_of v.cores c j) order
        (subst (Writes (events_alone v) (number_of v.cores c j)) (sym one) writes))
        ∙ last_push (writers v b order) (number_of v.cores c j))))
    | inr other ↦
        get_or-set_other memory.marks a b (marked v (mark_of v c j)) 0 other
        ∙ (h.come.marks b there ∙ ap (λ (l : List ℕ). marked v (mark (last_of l)))
        (sym (writers_same v b (number_of v.cores c j) order (λ also. absurd (other
        (let both : Some b ≡ Some a = sym also ∙ writes in cc))))))
  ]

module _ (v : Values) (order : List ℕ) (sources : List (Option ℕ)) (at drained : ℕ → ℕ) (memory : Memory)
    (h : IsTrail v order sources at drained memory) (few : event_count (events_alone v) < 2 ^ 32)
    (uses : (e a : ℕ) → Reads (events_alone v) e a ⊎ Writes (events_alone v) e a → a < length v.initial) where
  -- an event of a core at a place
  abbrev own : ℕ → List Event
  own c = events_of v.cores c

  abbrev number : ℕ → ℕ → ℕ
  number c j = number_of v.cores c j

  -- the last write of an address is no large number
  last_few : (a w : ℕ) → last_of (writers v a order) ≡ Some w
      → (w < event_count (events_alone v)) × Writes (events_alone v) w a
  last_few a w is =
      let last = last_some (writers v a order) w (writers_once v a order h.performed.once) is in
      let writes : Writes (events_alone v) w a = there_writer v a w order last.0 in
      (Writes-event (events_alone v) w a writes, writes)

  module _ (c j : ℕ) (inside : j < length (own c)) (here : j ≤ at c) where
    -- an earlier write of its core is among the first, or a store that waits
    own_write : (a u : ℕ) → Writes (events_alone v) u a → ProgramOrder (events_alone v) u (number c j)
        → (0 < times order u)
        ⊎ ((i : ℕ) × (drained c ≤ i) × (i < j) × (number c i ≡ u) × ((w : ℕ) × (get_or (own c) i F ≡ S a w)))
    own_write a u writes order_u = go (earlier v u (number c j) c j inside refl order_u)
      where
        go : (i : ℕ) × (i < j) × (i < length (own c)) × (number c i ≡ u)
            → (0 < times order u)
            ⊎ ((i : ℕ) × (drained c ≤ i) × (i < j) × (number c i ≡ u) × ((w : ℕ) × (get_or (own c) i F ≡ S a w)))
        go (i, less, there, is) = by (is_plain_store (event_of v.cores c i)) refl
          where
            event : event_at (events_alone v) u ≡ event_of v.cores c i
            event = ap (event_at (events_alone v)) (sym is) ∙ event_here v c i there

            by : (b : Bool) → is_plain_store (event_of v.cores c i) ≡ b
                → (0 < times order u)
                ⊎ ((i : ℕ) × (drained c ≤ i) × (i < j) × (number c i ≡ u) × ((w : ℕ) × (get_or (own c) i F ≡ S a w)))
            by false other = inl (subst (λ (k : ℕ). 0 < times order k) is
                ((h.come.others c i there other).1 (omega (arith, less, here))))
            by true store = elim (cases_lt i (drained c)) [
              | inl low ↦ inl (subst (λ (k : ℕ). 0 < times order k) is ((h.come.stores c i there store).1 low))
              | inr high ↦ inr (
                i,
                high,
                less,
                is,
                store_of (event_of v.cores c i) a
                    (ap written_address (sym event) ∙ writes) store,
              )
            ]

    -- what was read from memory
    pub memory_read : (a : ℕ) → Reads (events_alone v) (number c j) a → HasNone (own c) (drained c) j a
        → slice_index memory.values a ≡ value_read (event_at (events_alone v) (number c j))
        → may_read (source_at v c j) (slice_index memory.marks a) ≡ true
        → IsSourceAfter v order (number c j) a (last_of (writers v a order))
    memory_read a reads none value may = record {
      gives = go (last_of (writers v a order)) refl;
      known = known_right v (number c j) (slice_index memory.marks a) (last_of (writers v a order)) may
          (λ o is. mark_same v (last_of (writers v a order)) o
          (λ w last. omega (arith, few, (last_few a w last).0))
          (sym (h.come.marks a (uses (number c j) a (inl reads))) ∙ is));
      seen = inr (record {
        last = refl;
        none = λ u writes before. elim (own_write a u writes before) [
          | inl there ↦ there
          | inr w ↦ absurd (none w.0 w.1 w.2 w.4.0 w.4.1)
        ];
      });
    }
      where
        is : value_by (events_alone v) a (last_of (writers v a order))
            ≡ value_read (event_at (events_alone v) (number c j))
        is = sym (h.come.values a (uses (number c j) a (inl reads))) ∙ value

        go : (o : Option ℕ) → last_of (writers v a order) ≡ o
            → Gives (events_alone v) a o (value_read (event_at (events_alone v) (number c j)))
        go None last = sym (ap (value_by (events_alone v) a) (sym last) ∙ is)
        go (Some w) last = ((last_few a w last).1, ap (value_by (events_alone v) a) (sym last) ∙ is)

    -- what was read from a store of its own core
    pub own_read : (a r : ℕ) (y : IsYoungest (own c) (drained c) j a r) → Reads (events_alone v) (number c j) a
        → r ≡ value_read (event_at (events_alone v) (number c j))
        → may_read (source_at v c j) (mark_of v c y.at) ≡ true
        → IsSourceAfter v order (number c j) a (Some (number c y.at))
    own_read a r y reads value may = record {
      gives = (ap written_address event, ap value_written event ∙ value);
      known = known_right v (number c j) (mark_of v c y.at) (Some (number c y.at)) may
          (λ o is. marks (number c y.at) o (omega (arith, few, inside_here v c y.at there)) is);
      seen = inl (
        number c y.at,
        refl,
        record {
          writes = ap written_address event;
          store = ap is_plain_store event;
          earlier = order_here v c y.at j y.to inside;
          waits = elim (cases_lt 0 (times order (number c y.at))) [
            | inr none ↦ omega (arith, none)
            | inl some ↦ absurd (omega (
              arith,
              y.from,
              (h.come.stores c y.at there (ap is_plain_store y.is)).0 some,
            ))
          ];
          youngest = λ u writes before. elim (own_write a u writes before) [
            | inl first ↦ inl first
            | inr w ↦ inr (elim (cases_lt y.at w.0) [
              | inl after ↦ absurd (y.last w.0 after w.2 w.4.0 w.4.1)
              | inr most ↦ elim (cases_eq w.0 y.at) [
                | inl one ↦ inl (sym w.3 ∙ ap (number c) one)
                | inr other ↦ inr (subst (λ (k : ℕ). ProgramOrder (events_alone v) k (number c y.at)) w.3
                    (order_here v c w.0 y.at (omega (arith, most, other)) there))
              ]
            ])
          ];
        },
      );
    }
      where
        there : y.at < length (own c)
        there = omega (arith, y.to, inside)

        event : event_at (events_alone v) (number c y.at) ≡ S a r
        event = event_here v c y.at there ∙ y.is

        marks : (n : ℕ) (o : Option ℕ) → n + 2 < 2 ^ 64 - 1 → mark (Some n) ≡ mark o → Some n ≡ o
        marks n None small is = absurd (omega (arith, small, is))
        marks n (Some u) small is = ap (λ (k : ℕ). Some k) (omega (arith, small, is))

    -- what stands before it and is kept is among the first, unless a store waits
    pub kept_first : ((i : ℕ) → drained c ≤ i → i < j → is_plain_store (event_of v.cores c i) ≡ true
        → is_plain_load (event_of v.cores c j) ≡ true) → (f : ℕ) → Kept (events_alone v) f (number c j)
        → 0 < times order f
    kept_first overtakes f pair = go (earlier v f (number c j) c j inside refl pair.0)
      where
        go : (i : ℕ) × (i < j) × (i < length (own c)) × (number c i ≡ f) → 0 < times order f
        go (i, less, there, is) = by (is_plain_store (event_of v.cores c i)) refl
          where
            by : (b : Bool) → is_plain_store (event_of v.cores c i) ≡ b → 0 < times order f
            by false other = subst (λ (k : ℕ). 0 < times order k) is
                ((h.come.others c i there other).1 (omega (arith, less, here)))
            by true store = elim (cases_lt i (drained c)) [
              | inl low ↦ subst (λ (k : ℕ). 0 < times order k) is ((h.come.stores c i there store).1 low)
              | inr high ↦ absurd (
                  let first : is_plain_store (event_at (events_alone v) f) ≡ true =
                  ap (λ (k : ℕ). is_plain_store (event_at (events_alone v) k)) (sym is)
                  ∙ (ap is_plain_store (event_here v c i there) ∙ store) in
                  let second : is_plain_load (event_at (events_alone v) (number c j)) ≡ true =
                  ap is_plain_load (event_here v c j inside) ∙ overtakes i high less store in
                  let clash : true ≡ false =
                  sym (ap (λ (b : Bool). b && is_plain_load (event_at (events_alone v) (number c j))) first ∙ second)
                  ∙ pair.1 in cc)
            ]

  -- A core goes on from a place

  module _ (c j : ℕ) (inside : j < length (own c)) (here : at c ≡ j) (next : ℕ → ℕ) (on : next c ≡ j + 1)
      (away : (d : ℕ) → d ≢ c → next d ≡ at d) where
    low_next : (d : ℕ) → drained d ≤ next d
    low_next d = elim (cases_eq d c) [
      | inl one ↦ omega (arith, on, here, h.come.low c, ap next one, ap drained one)
      | inr apart ↦ omega (arith, away d apart, h.come.low d)
    ]

    within_next : (d : ℕ) → next d ≤ length (own d)
    within_next d = elim (cases_eq d c) [
      | inl one ↦ omega (arith, on, inside, ap next one, ap (λ (k : ℕ). length (own k)) one)
      | inr apart ↦ omega (arith, away d apart, h.come.within d)
    ]

    more_next : (d : ℕ) → at d ≤ next d
    more_next d = elim (cases_eq d c) [
      | inl one ↦ omega (arith, on, here, ap next one, ap at one)
      | inr apart ↦ omega (arith, away d apart)
    ]

    -- an event below the next place is below the place, or the one there
    below_next : (d i : ℕ) → i < next d → (i < at d) ⊎ ((d ≡ c) × (i ≡ j))
    below_next d i below = elim (cases_eq d c) [
      | inr apart ↦ inl (omega (arith, below, away d apart))
      | inl one ↦ elim (cases_eq i j) [
        | inl same ↦ inr (one, same)
        | inr other ↦ inl (omega (arith, below, on, other, here, ap next one, ap at one))
      ]
    ]

    -- over a store, which waits
    pub past_store : is_plain_store (event_of v.cores c j) ≡ true → IsTrail v order sources next drained memory
    past_store store = record {
      performed = h.performed;
      come = record {
        low = low_next;
        within = within_next;
        stores = h.come.stores;
        others = λ d i there other. (
          λ some. omega (arith, (h.come.others d i there other).0 some, more_next d),
          λ below. elim (below_next d i below) [
            | inl less ↦ (h.come.others d i there other).1 less
            | inr same ↦ absurd (let clash : true ≡ false =
                sym store ∙ (ap (λ (k : ℕ). is_plain_store (event_of v.cores k j)) (sym same.0)
                ∙ (ap (λ (k : ℕ). is_plain_store (event_of v.cores d k)) (sym same.1) ∙ other)) in cc)
          ],
        );
        values_size = h.come.values_size;
        marks_size = h.come.marks_size;
        values = h.come.values;
        marks = h.come.marks;
      };
    }

    -- no store there was performed
    new_event : is_plain_store (event_of v.cores c j) ≡ false → times order (number c j) ≡ 0
    new_event other = elim (cases_lt 0 (times order (number c j))) [
      | inr none ↦ omega (arith, none)
      | inl some ↦ absurd (omega (arith, (h.come.others c j inside other).0 some, here))
    ]

    -- where the cores are, with it
    stores_next : is_plain_store (event_of v.cores c j) ≡ false → (d i : ℕ) → i < length (own d)
        → is_plain_store (event_of v.cores d i) ≡ true
        → (0 < times (order ++ number c j ∷ []) (number d i)) ↔ (i < drained d)
    stores_next other d i there store = (
      λ some. elim (in_more order (number c j) (number d i) some) [
        | inr old ↦ (h.come.stores d i there store).0 old
        | inl one ↦
            let same = one_place v d i c j there inside (sym one) in
            absurd (let clash : false ≡ true =
            sym other ∙ (ap (λ (k : ℕ). is_plain_store (event_of v.cores k j)) (sym same.0)
            ∙ (ap (λ (k : ℕ). is_plain_store (event_of v.cores d k)) (sym same.1) ∙ store)) in cc)
      ],
      λ less. still_in order (number c j) (number d i) ((h.come.stores d i there store).1 less),
    )

    others_next : (d i : ℕ) → i < length (own d) → is_plain_store (event_of v.cores d i) ≡ false
        → (0 < times (order ++ number c j ∷ []) (number d i)) ↔ (i < next d)
    others_next d i there other = (
      λ some. elim (in_more order (number c j) (number d i) some) [
        | inr old ↦ omega (arith, (h.come.others d i there other).0 old, more_next d)
        | inl one ↦
            let same = one_place v d i c j there inside (sym one) in
            omega (arith, same.1, on, ap next same.0)
      ],
      λ below. elim (below_next d i below) [
        | inl less ↦ still_in order (number c j) (number d i) ((h.come.others d i there other).1 less)
        | inr same ↦ subst (λ (k : ℕ). 0 < times (order ++ number c j ∷ []) k)
            (ap (λ (k : ℕ). number k j) (sym same.0) ∙ ap (number d) (sym same.1)) (last_in order (number c j))
      ],
    )

    -- over an event that writes nothing
    pub past_silent : (s : Option ℕ) → is_plain_store (event_of v.cores c j) ≡ false
        → written_address (event_of v.cores c j) ≡ None
        → ((f : ℕ) → Kept (events_alone v) f (number c j) → 0 < times order f)
        → ((a : ℕ) → Reads (events_alone v) (number c j) a → IsSourceAfter v order (number c j) a s)
        → IsTrail v (order ++ number c j ∷ []) (slice_set sources (number c j) s) next drained memory
    past_silent s other silent kept right = record {
      performed = appended v order sources (number c j) s h.performed (inside_here v c j inside) (new_event other) kept
          right;
      come = record {
        low = low_next;
        within = within_next;
        stores = stores_next other;
        others = others_next;
        values_size = h.come.values_size;
        marks_size = h.come.marks_size;
        values = λ a there. h.come.values a there
            ∙ ap (λ (l : List ℕ). value_by (events_alone v) a (last_of l)) (sym (same a));
        marks = λ a there. h.come.marks a there ∙ ap (λ (l : List ℕ). marked v (mark (last_of l))) (sym (same a));
      };
    }
      where
        same : (a : ℕ) → writers v a (order ++ number c j ∷ []) ≡ writers v a order
        same a = writers_same v a (number c j) order (λ writes. absurd (
            let clash : None ≡ Some a =
            sym silent ∙ (ap written_address (sym (event_here v c j inside)) ∙ writes) in cc))

    -- over a read-modify-write
    pub past_modify : (a r w : ℕ) (o : Option ℕ) → event_of v.cores c j ≡ R a r o w
        → none_waits stored_by_event (between (own c) (drained c) j) ≡ true → slice_index memory.values a ≡ r
        → may_read (source_at v c j) (slice_index memory.marks a) ≡ true
        → IsTrail v (order ++ number c j ∷ []) (slice_set sources (number c j) (last_of (writers v a order))) next drained
        (record { values = slice_set memory.values a w; marks = slice_set memory.marks a (marked v (mark_of v c j)) })
    past_modify a r w o is none value may = record {
      performed = appended v order sources (number c j) (last_of (writers v a order)) h.performed
          (inside_here v c j inside) (new_event (ap is_plain_store is))
          (kept_first c j inside (omega (arith, here)) (λ i from to store. absurd (
          let clash : false ≡ true =
          sym (none_stands (own c) (drained c) j i none from to (omega (arith, inside))) ∙ store in cc)))
          (λ b reads.
          let one : a ≡ b = same_address b reads in
          subst (λ (k : ℕ). IsSourceAfter v order (number c j) k (last_of (writers v a order))) one
          (memory_read c j inside (omega (arith, here)) a (subst (λ (k : ℕ). Reads (events_alone v) (number c j) k)
          (sym one) reads) (λ i from to u store. absurd (
          let clash : false ≡ true =
          sym (none_stands (own c) (drained c) j i none from to (omega (arith, inside)))
          ∙ ap is_plain_store store in cc)) (value ∙ sym (ap value_read event)) may));
      come = record {
        low = low_next;
        within = within_next;
        stores = stores_next (ap is_plain_store is);
        others = others_next;
        values_size = length-set memory.values a w ∙ h.come.values_size;
        marks_size = length-set memory.marks a (marked v (mark_of v c j)) ∙ h.come.marks_size;
        values = λ b there. memory_values v order sources at drained memory h c j a w (ap written_address event)
            (ap value_written event) b there;
        marks = λ b there. memory_marks v order sources at drained memory h c j a (ap written_address event) b there;
      };
    }
      where
        event : event_at (events_alone v) (number c j) ≡ R a r o w
        event = event_here v c j inside ∙ is

        same_address : (b : ℕ) → Reads (events_alone v) (number c j) b → a ≡ b
        same_address b reads = let both : Some a ≡ Some b = sym (ap read_address event) ∙ reads in cc

    -- what was free to be executed
    free_as : (ev : Event) → event_of v.cores c j ≡ ev → is_free_at v memory c (drained c) j ≡ true
        → is_free v memory c (drained c) j (between (own c) (drained c) j) ev ≡ true
    free_as ev is free =
        ap (is_free v memory c (drained c) j (between (own c) (drained c) j)) (sym is) ∙ free

    reads_same : (ev : Event) → event_of v.cores c j ≡ ev → (a b : ℕ) → read_address ev ≡ Some a
        → Reads (events_alone v) (number c j) b → a ≡ b
    reads_same ev is a b of reads =
        let both : Some a ≡ Some b = sym of ∙ (ap read_address (sym (event_here v c j inside ∙ is)) ∙ reads) in cc

    -- a load
    past_load : (a r : ℕ) (o : Option ℕ) → event_of v.cores c j ≡ L a r o
        → is_free v memory c (drained c) j (between (own c) (drained c) j) (L a r o) ≡ true
        → IsTrail v (order ++ number c j ∷ []) (slice_set sources (number c j)
        (source_found v c (youngest stored_by_event a None (drained c) (between (own c) (drained c) j))
        (last_of (writers v a order))))
        next drained memory
    past_load a r o is free =
        past_silent (source_found v c (youngest stored_by_event a None (drained c) (between (own c) (drained c) j))
        (last_of (writers v a order))) (ap is_plain_store is) (ap written_address is)
        (kept_first c j inside (omega (arith, here)) (λ i from to store. ap is_plain_load is))
        (λ b reads.
        let one : a ≡ b = reads_same (L a r o) is a b refl reads in
        subst (λ (k : ℕ). IsSourceAfter v order (number c j) k
        (source_found v c (youngest stored_by_event a None (drained c) (between (own c) (drained c) j))
        (last_of (writers v a order))))
        one (source (subst (λ (k : ℕ). Reads (events_alone v) (number c j) k) (sym one) reads)))
      where
        n : ℕ
        n = j - drained c

        apart : j ≡ drained c + n
        apart = omega (arith, h.come.low c, here)

        parts : (forwarded stored_by_event a (slice_index memory.values a) (between (own c) (drained c) j) ≡ r)
            × (may_read (source_at v c j) (mark_read v c (slice_index memory.marks a)
            (youngest stored_by_event a None (drained c) (between (own c) (drained c) j))) ≡ true)
        parts =
            let found : ℕ = forwarded stored_by_event a (slice_index memory.values a) (between (own c) (drained c) j) in
            let both = and_parts (found == r) _ free in (eqb-true found r both.0, both.1)

        value : r ≡ value_read (event_at (events_alone v) (number c j))
        value = sym (ap value_read (event_here v c j inside ∙ is))

        source : Reads (events_alone v) (number c j) a → IsSourceAfter v order (number c j) a
            (source_found v c (youngest stored_by_event a None (drained c) (between (own c) (drained c) j))
            (last_of (writers v a order)))
        source reads = elim (forwarded_cases (own c) (drained c) n j a (slice_index memory.values a) apart
            (omega (arith, inside))) [
              | inl y ↦
                  let young : youngest stored_by_event a None (drained c) (between (own c) (drained c) j) ≡ Some y.at =
                  youngest_is (own c) (drained c) n j a
                  (forwarded stored_by_event a (slice_index memory.values a) (between (own c) (drained c) j)) apart
                  (omega (arith, inside)) y in
                  subst (λ (z : Option ℕ). IsSourceAfter v order (number c j) a
                  (source_found v c z (last_of (writers v a order)))) (sym young)
                  (own_read c j inside (omega (arith, here)) a
                  (forwarded stored_by_event a (slice_index memory.values a) (between (own c) (drained c) j)) y reads
                  (parts.0 ∙ value)
                  (ap (λ (z : Option ℕ). may_read (source_at v c j) (mark_read v c (slice_index memory.marks a) z))
                  (sym young) ∙ parts.1))
              | inr (none, same) ↦
                  let young : youngest stored_by_event a None (drained c) (between (own c) (drained c) j) ≡ None =
                  youngest_none (own c) (drained c) n j a apart (omega (arith, inside)) none in
                  subst (λ (z : Option ℕ). IsSourceAfter v order (number c j) a
                  (source_found v c z (last_of (writers v a order)))) (sym young)
                  (memory_read c j inside (omega (arith, here)) a reads none (sym same ∙ (parts.0 ∙ value))
                  (ap (λ (z : Option ℕ). may_read (source_at v c j) (mark_read v c (slice_index memory.marks a) z))
                  (sym young) ∙ parts.1))
            ]

    -- a compare-and-swap that failed
    past_cas : (a r : ℕ) (o : Option ℕ) → event_of v.cores c j ≡ C a r o
        → is_free v memory c (drained c) j (between (own c) (drained c) j) (C a r o) ≡ true
        → IsTrail v (order ++ number c j ∷ []) (slice_set sources (number c j) (last_of (writers v a order))) next
        drained memory
    past_cas a r o is free =
        let parts = and_parts (none_waits stored_by_event (between (own c) (drained c) j)) _ free in
        let both = and_parts (slice_index memory.values a == r) _ parts.1 in
        past_silent (last_of (writers v a order)) (ap is_plain_store is) (ap written_address is)
        (kept_first c j inside (omega (arith, here)) (λ i from to store. absurd (
        let clash : false ≡ true =
        sym (none_stands (own c) (drained c) j i parts.0 from to (omega (arith, inside))) ∙ store in cc)))
        (λ b reads.
        let one : a ≡ b = reads_same (C a r o) is a b refl reads in
        subst (λ (k : ℕ). IsSourceAfter v order (number c j) k (last_of (writers v a order))) one
        (memory_read c j inside (omega (arith, here)) a
        (subst (λ (k : ℕ). Reads (events_alone v) (number c j) k) (sym one) reads)
        (λ i from to u store. absurd (
        let clash : false ≡ true =
        sym (none_stands (own c) (drained c) j i parts.0 from to (omega (arith, inside)))
        ∙ ap is_plain_store store in cc))
        (eqb-true (slice_index memory.values a) r both.0 ∙ sym (ap value_read (event_here v c j inside ∙ is))) both.1))

    -- a fence
    past_fence : event_of v.cores c j ≡ F → is_free v memory c (drained c) j (between (own c) (drained c) j) F ≡ true
        → IsTrail v (order ++ number c j ∷ []) (slice_set sources (number c j) None) next drained memory
    past_fence is free =
        past_silent None (ap is_plain_store is) (ap written_address is)
        (kept_first c j inside (omega (arith, here)) (λ i from to store. absurd (
        let clash : false ≡ true =
        sym (none_stands (own c) (drained c) j i free from to (omega (arith, inside))) ∙ store in cc)))
        (λ b reads. absurd (let clash : None ≡ Some b =
        sym (ap read_address (event_here v c j inside ∙ is)) ∙ reads in cc))

    -- whatever it is
    pub past_free_event : is_free_at v memory c (drained c) j ≡ true
        → IsTrail v (order_after v order c j (event_of v.cores c j))
        (sources_after v order sources c (drained c) j (event_of v.cores c j)) next drained memory
    past_free_event free = go (event_of v.cores c j) refl
      where
        go : (ev : Event) → event_of v.cores c j ≡ ev → IsTrail v (order_after v order c j (event_of v.cores c j))
            (sources_after v order sources c (drained c) j (event_of v.cores c j)) next drained memory
        go (L a r o) is = subst (λ (e : Event). IsTrail v (order_after v order c j e)
            (sources_after v order sources c (drained c) j e) next drained memory) (sym is)
            (past_load a r o is (free_as (L a r o) is free))
        go (S a w) is = subst (λ (e : Event). IsTrail v (order_after v order c j e)
            (sources_after v order sources c (drained c) j e) next drained memory) (sym is)
            (past_store (ap is_plain_store is))
        go (R a r o w) is = absurd (let clash : false ≡ true = free_as (R a r o w) is free in cc)
        go (C a r o) is = subst (λ (e : Event). IsTrail v (order_after v order c j e)
            (sources_after v order sources c (drained c) j e) next drained memory) (sym is)
            (past_cas a r o is (free_as (C a r o) is free))
        go F is = subst (λ (e : Event). IsTrail v (order_after v order c j e)
            (sources_after v order sources c (drained c) j e) next drained memory) (sym is)
            (past_fence is (free_as F is free))

  -- The oldest waiting store of a core comes to memory

  pub drain_on : (c p a w : ℕ) (next : ℕ → ℕ) → p < length (own c) → drained c ≤ p → p < at c
      → event_of v.cores c p ≡ S a w
      → ((i : ℕ) → drained c ≤ i → i < p → is_plain_store (event_of v.cores c i) ≡ false)
      → next c ≡ p + 1 → ((d : ℕ) → d ≢ c → next d ≡ drained d)
      → IsTrail v (order ++ number c p ∷ []) (slice_set sources (number c p) None) at next
      (record { values = slice_set memory.values a w; marks = slice_set memory.marks a (marked v (mark_of v c p)) })
  drain_on c p a w next inside from to is first on away = record {
    performed = appended v order sources (number c p) None h.performed (inside_here v c p inside) new
        (kept_first c p inside (omega (arith, to)) (λ i low less store. absurd (
        let clash : false ≡ true = sym (first i low less) ∙ store in cc)))
        (λ b reads. absurd (let clash : None ≡ Some b = sym (ap read_address event) ∙ reads in cc));
    come = record {
      low = λ d. elim (cases_eq d c) [
        | inl one ↦ omega (arith, on, to, ap next one, ap at one)
        | inr apart ↦ omega (arith, away d apart, h.come.low d)
      ];
      within = h.come.within;
      stores = λ d i there store. (
        λ some. elim (in_more order (number c p) (number d i) some) [
          | inl one ↦ let same = one_place v d i c p there inside (sym one) in
              omega (arith, same.1, on, ap next same.0)
          | inr old ↦ elim (cases_eq d c) [
            | inl one ↦ omega (
              arith,
              (h.come.stores d i there store).0 old,
              from,
              on,
              ap next one,
              ap drained one,
            )
            | inr apart ↦ omega (arith, (h.come.stores d i there store).0 old, away d apart)
          ]
        ],
        λ less. elim (cases_eq d c) [
          | inr apart ↦ still_in order (number c p) (number d i)
              ((h.come.stores d i there store).1 (omega (arith, less, away d apart)))
          | inl one ↦ elim (cases_eq i p) [
            | inl same ↦ subst (λ (k : ℕ). 0 < times (order ++ number c p ∷ []) k)
                (ap (λ (k : ℕ). number k p) (sym one) ∙ ap (number d) (sym same)) (last_in order (number c p))
            | inr other ↦ elim (cases_lt i (drained d)) [
              | inl low ↦ still_in order (number c p) (number d i) ((h.come.stores d i there store).1 low)
              | inr high ↦ absurd (
                  let no : is_plain_store (event_of v.cores c i) ≡ false =
                  first i (omega (arith, high, ap drained one))
                  (omega (arith, less, on, other, ap next one)) in
                  let clash : false ≡ true =
                  sym no ∙ (ap (λ (k : ℕ). is_plain_store (event_of v.cores k i)) (sym one) ∙ store) in cc)
            ]
          ]
        ],
      );
      others = λ d i there other. (
        λ some. elim (in_more order (number c p) (number d i) some) [
          | inr old ↦ (h.come.others d i there other).0 old
          | inl one ↦
              let same = one_place v d i c p there inside (sym one) in
              absurd (let clash : true ≡ false =
              sym (ap is_plain_store is) ∙ (ap (λ (k : ℕ). is_plain_store (event_of v.cores k p)) (sym same.0)
              ∙ (ap (λ (k : ℕ). is_plain_store (event_of v.cores d k)) (sym same.1) ∙ other)) in cc)
        ],
        λ less. still_in order (number c p) (number d i) ((h.come.others d i there other).1 less),
      );
      values_size = length-set memory.values a w ∙ h.come.values_size;
      marks_size = length-set memory.marks a (marked v (mark_of v c p)) ∙ h.come.marks_size;
      values = λ b there. memory_values v order sources at drained memory h c p a w (ap written_address event)
          (ap value_written event) b there;
      marks = λ b there. memory_marks v order sources at drained memory h c p a (ap written_address event) b there;
    };
  }
    where
      event : event_at (events_alone v) (number c p) ≡ S a w
      event = event_here v c p inside ∙ is

      new : times order (number c p) ≡ 0
      new = elim (cases_lt 0 (times order (number c p))) [
        | inr none ↦ omega (arith, none)
        | inl some ↦ absurd (omega (arith, (h.come.stores c p inside (ap is_plain_store is)).0 some, from))
      ]
