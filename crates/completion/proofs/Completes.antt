-- What turns that lead to the end perform completes the values.
use Rattle.std.proofs.Common.{◌≡◌, ◌<◌, ◌≤◌, ◌+◌, ◌-◌, ◌∙◌, ◌⊎◌, inl, inr, ℕ, zero, suc, Bool, true, false, Option}
use Rattle.std.proofs.Common.{Some, None, List}
use Rattle.std.proofs.Common.{[], ◌∷◌, map, length, get_or, arith, refl, sym, ap, subst}
use Rattle.std.proofs.lemmas.Bool.{cases_lt}
use Rattle.std.proofs.lemmas.List.{get_or_past, length-map}
use Rattle.std.proofs.lemmas.Option.{slice_get-get_or}
use Rattle.recording.specs.declared.event.Event.{Event}
use Rattle.recording.specs.declared.event.Event.TheVariants.{L, S, R, C, F}
use Rattle.recording.specs.Event.{is_plain_load, is_plain_store, read_address, value_read}
use Rattle.recording.specs.EventLaws.{Reads-event, Writes-event}
use Rattle.recording.specs.Execution.{Execution, event_at, event_count, source_of, write_list, Kept}
use Rattle.recording.specs.Execution.{Reads, Writes}
use Rattle.recording.specs.Order.{Before, place, times, Enumerates}
use Rattle.recording.specs.OrderLaws.{place_in, times_nil, place_within}
use Rattle.recording.specs.Recording.{IsShortRecording}
use Rattle.recording.specs.Tso.{Gives, IsLastVisible, IsTsoOrder, IsWellFormed, Visible}
use Rattle.values.specs.Final.{final_value, value_by}
use Rattle.values.specs.FinalLaws.{final_past}
use Rattle.values.specs.Refused.{events_alone}
use Rattle.values.specs.Values.{IsCompletion, Values, known_final, known_source, unsourced}
use Rattle.completion.specs.Situation.{memory_of}
use Rattle.completion.specs.Performed.{HaveRoom, IsLastInMemory, IsOwnStore, IsSourceAfter, IsTrail, last_of, until}
use Rattle.completion.specs.Performed.{writers}
use Rattle.completion.specs.Search.{event_of}
use Rattle.completion.specs.Situation.{events_of, number_of, IsEnd}
use Rattle.situations.specs.Situation.{Situation, drained_of, place_of, waiting}
use Rattle.situations.specs.Step.{stored_by_event}
use Rattle.situations.specs.Waiting.{oldest}
use Rattle.completion.proofs.Alone.{count_with, order_with, reads_with, value_with, with_kept, with_order}
use Rattle.completion.proofs.Alone.{with_reads, with_writes, writes_with, written_with}
use Rattle.situations.proofs.Ranges.{between_at, length_between}
use Rattle.completion.proofs.Numbered.{found}
use Rattle.completion.proofs.OrderLists.{before_until, front_before, front_in, front_times, last_none, last_some}
use Rattle.completion.proofs.OrderLists.{there_writer}
use Rattle.completion.proofs.OrderLists.{until_before, writer_there, writers_before, writers_once}
use Rattle.completion.proofs.Reading.{second_kept}
use Rattle.completion.proofs.Same.{no_source}

-- where there is no oldest store, there is none
no_oldest : (l : List Event) (i n : ℕ) → oldest stored_by_event i l ≡ None → n < length l
    → is_plain_store (get_or l n F) ≡ false
no_oldest [] i n none inside = absurd (omega (arith, inside))
no_oldest (S a w ∷ l) i n none inside = absurd cc
no_oldest (L a r o ∷ l) i zero none inside = refl
no_oldest (L a r o ∷ l) i (suc n) none inside = no_oldest l (suc i) n none (omega (arith, inside))
no_oldest (R a r o w ∷ l) i zero none inside = refl
no_oldest (R a r o w ∷ l) i (suc n) none inside = no_oldest l (suc i) n none (omega (arith, inside))
no_oldest (C a r o ∷ l) i zero none inside = refl
no_oldest (C a r o ∷ l) i (suc n) none inside = no_oldest l (suc i) n none (omega (arith, inside))
no_oldest (F ∷ l) i zero none inside = refl
no_oldest (F ∷ l) i (suc n) none inside = no_oldest l (suc i) n none (omega (arith, inside))

-- an execution with the events of values, the sources of an order, and its writes
pub record IsMade (v : Values) (order : List ℕ) (sources : List (Option ℕ)) (x : Execution) : Type 0 where
  pub cores : map (map unsourced) x.cores ≡ v.cores
  pub initial : x.initial ≡ v.initial
  pub source : (e a : ℕ) → Reads x e a → source_of x e ≡ get_or sources e None
  pub lists : length x.write_lists ≡ length v.initial
  pub writes : (a : ℕ) → a < length v.initial → write_list x a ≡ writers v a order

module _ (v : Values) (order : List ℕ) (sources : List (Option ℕ)) (r : Situation)
    (h : IsTrail v order sources (place_of r) (drained_of r) (memory_of r)) (end : IsEnd v r) (room : HaveRoom v)
    (x : Execution) (made : IsMade v order sources x) where
  -- all events are performed
  all_in : (e : ℕ) → e < event_count (events_alone v) → 0 < times order e
  all_in e inside = go (found v e inside)
    where
      go : (c : ℕ) × (j : ℕ) × (j < length (events_of v.cores c)) × (number_of v.cores c j ≡ e) → 0 < times order e
      go (c, j, there, is) = subst (λ (k : ℕ). 0 < times order k) is (by (is_plain_store (event_of v.cores c j)) refl)
        where
          most : length (events_of v.cores c) ≤ place_of r c
          most = elim (cases_lt (place_of r c) (length (events_of v.cores c))) [
            | inr all ↦ all
            | inl less ↦ absurd (let clash : None ≡ Some (get_or (events_of v.cores c) (place_of r c) F) =
                sym (end.over c).0 ∙ slice_get-get_or (events_of v.cores c) (place_of r c) F less in cc)
          ]

          by : (b : Bool) → is_plain_store (event_of v.cores c j) ≡ b → 0 < times order (number_of v.cores c j)
          by false other = (h.come.others c j there other).1 (omega (arith, there, most))
          by true store = elim (cases_lt j (drained_of r c)) [
            | inl low ↦ (h.come.stores c j there store).1 low
            | inr high ↦ absurd (
                let d : ℕ = drained_of r c in
                let k : ℕ = place_of r c in
                let at : d + (j - d) ≡ j = omega (arith, high) in
                let none : is_plain_store (get_or (waiting v.cores r c) (j - d) F) ≡ false =
                no_oldest (waiting v.cores r c) d (j - d) (end.over c).1
                (omega (arith, length_between (events_of v.cores c) d k (h.come.within c), there, most, high)) in
                let same : is_plain_store (get_or (waiting v.cores r c) (j - d) F) ≡ true =
                ap is_plain_store (between_at (events_of v.cores c) d k (j - d) F (omega (arith, at, there, most)))
                ∙ (ap (λ (n : ℕ). is_plain_store (get_or (events_of v.cores c) n F)) at ∙ store) in
                let clash : false ≡ true = sym none ∙ same in cc)
          ]

  all_x : (e : ℕ) → e < event_count x → 0 < times order e
  all_x e inside = all_in e (omega (arith, inside, count_with v x made.cores))

  total : Enumerates (λ e. e < event_count x) order
  total = record {
    once = λ e inside. omega (arith, h.performed.once e, all_x e inside);
    nothing_else = λ e there. omega (arith, h.performed.events e there, count_with v x made.cores);
  }

  kept : (e f : ℕ) → Kept x e f → Before order e f
  kept e f pair = h.performed.kept e f (with_kept v x made.cores e f pair) (all_x f pair.0.1)

  -- no writes of other addresses
  past_list : (a : ℕ) → length v.initial ≤ a → write_list x a ≡ []
  unfolding write_list
  past_list a past = get_or_past x.write_lists a [] (omega (arith, past, made.lists))

  write_order : (a e f : ℕ) → Before (write_list x a) e f → Before order e f
  write_order a e f before = elim (cases_lt a (length v.initial)) [
    | inl there ↦ writers_before v a e f order
        (subst (λ (l : List ℕ). Before l e f) (made.writes a there) before)
    | inr past ↦
        let none : Before [] e f = subst (λ (l : List ℕ). Before l e f) (past_list a past) before in
        absurd (omega (arith, none.0, none.1))
  ]

  -- the source of a read
  right : (e a : ℕ) → Reads x e a → IsSourceAfter v (until order e) e a (get_or sources e None)
  right e a reads = h.performed.reads e a (with_reads v x made.cores e a reads) (all_x e (Reads-event x e a reads))

  -- what is visible to an event
  module _ (e a : ℕ) (reads : Reads x e a) where
    in_order : 0 < times order e
    in_order = all_x e (Reads-event x e a reads)

    own : (w : ℕ) → IsOwnStore v (until order e) e a w → IsLastVisible x order e a (Some w)
    own w o = (
      (
        writes_with v x made.cores w a o.writes,
        (λ one. absurd (omega (arith, one, o.earlier.0))),
        inr (order_with v x made.cores w e o.earlier),
      ),
      λ u seen. visible u seen,
    )
      where
        w_in : 0 < times order w
        w_in = all_in w (Writes-event (events_alone v) w a o.writes)

        after : place order e ≤ place order w
        after = elim (cases_lt (place order w) (place order e)) [
          | inr le ↦ le
          | inl less ↦ absurd (omega (
            arith,
            o.waits,
            front_in order (place order e) w less (place_within order e),
          ))
        ]

        first : (u : ℕ) → 0 < times (until order e) u → Before order u w
        first u there =
            let before : Before order u e = until_before order e u in_order there in
            (omega (arith, before.0, after), place_in order w w_in)

        visible : (u : ℕ) → Visible x order e a u → (u ≡ w) ⊎ Before order u w
        visible u seen = elim seen.2 [
          | inl before ↦ inr (first u (before_until order e u before))
          | inr earlier ↦ elim (o.youngest u (with_writes v x made.cores u a seen.0)
              (with_order v x made.cores u e earlier)) [
                | inl there ↦ inr (first u there)
                | inr other ↦ elim other [
                  | inl one ↦ inl one
                  | inr order_u ↦ inr (h.performed.kept u w (
                    order_u,
                    second_kept (is_plain_store (event_at (events_alone v) u))
                        (is_plain_load (event_at (events_alone v) w)) (no_load (event_at (events_alone v) w) o.store),
                  ) w_in)
                ]
              ]
        ]
          where
            no_load : (ev : Event) → is_plain_store ev ≡ true → is_plain_load ev ≡ false
            no_load (L b r s) is = absurd cc
            no_load (S b u) is = refl
            no_load (R b r s u) is = refl
            no_load (C b r s) is = refl
            no_load F is = refl

    memory : (s : Option ℕ) → IsLastInMemory v (until order e) e a s → IsLastVisible x order e a s
    memory s m = go s m.last
      where
        -- what is visible is among the first
        first : (u : ℕ) → Visible x order e a u → 0 < times (until order e) u
        first u seen = elim seen.2 [
          | inl before ↦ before_until order e u before
          | inr earlier ↦ m.none u (with_writes v x made.cores u a seen.0) (with_order v x made.cores u e earlier)
        ]

        -- so it is a write there
        writer : (u : ℕ) → Visible x order e a u → 0 < times (writers v a (until order e)) u
        writer u seen =
            omega (arith, first u seen, writer_there v a u (until order e) (with_writes v x made.cores u a seen.0))

        go : (s : Option ℕ) → s ≡ last_of (writers v a (until order e)) → IsLastVisible x order e a s
        go None last = λ u seen. absurd (omega (
          arith,
          writer u seen,
          last_none (writers v a (until order e)) u (sym last),
        ))
        go (Some w) last =
            let is = last_some (writers v a (until order e)) w (writers_once v a (until order e)
            (λ f. omega (arith, front_times order (place order e) f, h.performed.once f))) (sym last) in
            let writes : Writes (events_alone v) w a = there_writer v a w (until order e) is.0 in
            let before : Before order w e = until_before order e w in_order
            (omega (arith, is.0, writer_there v a w (until order e) writes)) in (
              (
                writes_with v x made.cores w a writes,
                (λ one. absurd (omega (arith, before.0, ap (place order) one))),
                inl before,
              ),
              λ u seen. elim (is.1 u (writer u seen)) [
                | inl one ↦ inl one
                | inr earlier ↦ inr (front_before order (place order e) u w
                    (writers_before v a u w (until order e) earlier))
              ],
            )

    values : IsLastVisible x order e a (source_of x e)
    values = subst (IsLastVisible x order e a) (sym (made.source e a reads)) (elim (right e a reads).seen [
      | inl o ↦ subst (IsLastVisible x order e a) (sym o.1) (own o.0 o.2)
      | inr m ↦ memory (get_or sources e None) m
    ])

    gives : Gives x a (source_of x e) (value_read (event_at x e))
    gives = subst (λ (o : Option ℕ). Gives x a o (value_read (event_at x e))) (sym (made.source e a reads))
        (go (get_or sources e None) (right e a reads).gives)
      where
        go : (o : Option ℕ) → Gives (events_alone v) a o (value_read (event_at (events_alone v) e))
            → Gives x a o (value_read (event_at x e))
        go None is = sym (value_with v x made.cores e) ∙ (is ∙ ap (λ (l : List ℕ). get_or l a 0) (sym made.initial))
        go (Some w) is = (
          writes_with v x made.cores w a is.0,
          sym (written_with v x made.cores w) ∙ (is.1 ∙ value_with v x made.cores e),
        )

  tso : IsTsoOrder x order
  tso = record { total = total; kept = kept; write_order = write_order; values = values }

  uses : (e a : ℕ) → Reads x e a ⊎ Writes x e a → a < length v.initial
  uses e a (inl reads) = room.addresses e a (inl (with_reads v x made.cores e a reads))
  uses e a (inr writes) = room.addresses e a (inr (with_writes v x made.cores e a writes))

  well_formed : IsWellFormed x
  well_formed = record {
    sources = gives;
    write_lists = λ a. elim (cases_lt a (length v.initial)) [
      | inl there ↦ subst (Enumerates (λ e. Writes x e a)) (sym (made.writes a there)) (record {
        once = λ e writes.
            let alone : Writes (events_alone v) e a = with_writes v x made.cores e a writes in
            omega (
              arith,
              writer_there v a e order alone,
              h.performed.once e,
              all_in e (Writes-event (events_alone v) e a alone),
            );
        nothing_else = λ e inside. writes_with v x made.cores e a (there_writer v a e order inside);
      })
      | inr past ↦ subst (Enumerates (λ e. Writes x e a)) (sym (past_list a past)) (record {
        once = λ e writes. absurd (omega (arith, past, uses e a (inr writes)));
        nothing_else = λ e inside. absurd (omega (arith, inside, times_nil e));
      })
    ];
  }

  recording : IsShortRecording x
  recording = record {
    well_formed = well_formed;
    within = record {
      few_cores = omega (
        arith,
        room.few_cores,
        ap (λ (l : List (List Event)). length l) made.cores,
        length-map x.cores (map unsourced),
      );
      few_events = omega (arith, room.few_events, count_with v x made.cores);
      few_addresses = omega (arith, room.few_addresses, made.lists);
      addresses = λ e a used. omega (arith, uses e a used, made.lists);
      initial = ap (λ (l : List ℕ). length l) made.initial ∙ sym made.lists;
    };
  }

  known : (e : ℕ) (s : Option ℕ) → known_source v e ≡ Some s → source_of x e ≡ s
  known e s is = go (read_address (event_at x e)) refl
    where
      none : read_address (event_at x e) ≡ None → (s : Option ℕ) → known_source v e ≡ Some s → None ≡ s
      none silent None is = refl
      none silent (Some w) is =
          let reads = room.sources e w is in
          let clash : None ≡ Some reads.0 = sym silent ∙ reads_with v x made.cores e reads.0 reads.1 in absurd cc

      go : (o : Option ℕ) → read_address (event_at x e) ≡ o → source_of x e ≡ s
      go None silent = no_source (event_at x e) silent ∙ none silent s is
      go (Some a) reads = made.source e a reads ∙ (right e a reads).known s is

  value_same : (a : ℕ) (o : Option ℕ) → value_by (events_alone v) a o ≡ value_by x a o
  value_same a None = ap (λ (l : List ℕ). get_or l a 0) (sym made.initial)
  value_same a (Some w) = written_with v x made.cores w

  finals : (a n : ℕ) → known_final v a ≡ Some n → final_value x a ≡ n
  finals a n is = elim (cases_lt a (length v.initial)) [
    | inl there ↦
        ap (λ (l : List ℕ). value_by x a (last_of l)) (made.writes a there)
        ∙ (sym (value_same a (last_of (writers v a order))) ∙ (sym (h.come.values a there) ∙ end.finals a n is))
    | inr past ↦
        final_past x a (omega (arith, past, ap (λ (l : List ℕ). length l) made.initial))
        (ap (λ (l : List ℕ). length l) made.initial ∙ sym made.lists)
        ∙ (sym (get_or_past r.memory a 0 (omega (arith, past, h.come.values_size))) ∙ end.finals a n is)
  ]

  -- it completes them
  pub completes : IsCompletion v x order
  completes = record {
    cores = made.cores;
    initial = made.initial;
    sources = known;
    final_values = finals;
    recording = recording;
    tso = tso;
  }
