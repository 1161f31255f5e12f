-- An execution of which some events alone keep what they read: its events, that it is a recording, and its forced
-- pairs.
use Rattle.std.proofs.Common.{◌≡◌, ◌<◌, ◌+◌, ◌≤◌, inl, inr, ℕ, zero, suc, Bool, true, false, cond, Option, Some, None}
use Rattle.std.proofs.Common.{List, [], ◌∷◌}
use Rattle.std.proofs.Common.{length-append, ◌++◌, ◌&&◌, ◌↔◌, map, length, take, get_or, arith, ap, sym, subst, refl}
use Rattle.std.proofs.Common.{◌∙◌}
use Rattle.recording.specs.declared.event.Event.{Event}
use Rattle.recording.specs.declared.event.Event.TheVariants.{L, S, R, C, F}
use Rattle.recording.specs.declared.size.RecordingSize.{RecordingSize}
use Rattle.recording.specs.Event.{read_address, written_address, source, value_read, value_written}
use Rattle.recording.specs.Event.{is_plain_store, is_plain_load}
use Rattle.recording.specs.Execution.{Execution, placed_from, event_count, event_at, core_of, write_list, initial_value}
use Rattle.recording.specs.Execution.{Reads, Writes, source_of, ProgramOrder}
use Rattle.recording.specs.Order.{times, Before}
use Rattle.recording.specs.Recording.{IsRecordingWithin, executed}
use Rattle.recording.specs.Tso.{Gives, IsWellFormed}
use Rattle.relations.specs.declared.reason.Reason.{Reason}
use Rattle.relations.specs.declared.reason.Reason.TheVariants.{Po, Wo, Rf, Fr}
use Rattle.relations.specs.Consistency.{HasNoOverlook}
use Rattle.relations.specs.Forced.{Forced, Holds, IsLeastOverlook, IsOlder, Overlooks}
use Rattle.reduction.specs.Pruned.{pruned, pruned_cores, pruned_event, pruned_events}
use Rattle.reduction.specs.Restriction.{stands_in}

-- numbered events, each pruned at its number
pruned_placed : List ℕ → ℕ → List (ℕ × Event) → List (ℕ × Event)
pruned_placed es n [] = []
pruned_placed es n (p ∷ ps) = (p.0, pruned_event es n p.1) ∷ pruned_placed es (n + 1) ps

-- those of one core
core_placed : (es : List ℕ) (n c : ℕ) (events : List Event)
    → map (λ (e : Event). (c, e)) (pruned_events es n events) ≡ pruned_placed es n (map (λ (e : Event). (c, e)) events)
unfolding pruned_placed
core_placed es n c [] = refl
core_placed es n c (e ∷ rest) =
    ap (λ (ps : List (ℕ × Event)). (c, pruned_event es n e) ∷ ps) (core_placed es (n + 1) c rest)

-- those of two lists
joined_placed : (es : List ℕ) (n : ℕ) (ps qs : List (ℕ × Event))
    → pruned_placed es n (ps ++ qs) ≡ pruned_placed es n ps ++ pruned_placed es (n + length ps) qs
unfolding pruned_placed
joined_placed es n [] qs = ap (λ (k : ℕ). pruned_placed es k qs) (omega arith)
joined_placed es n (p ∷ ps) qs = ap (λ (l : List (ℕ × Event)). (p.0, pruned_event es n p.1) ∷ l)
    (joined_placed es (n + 1) ps qs
    ∙ ap (λ (k : ℕ). pruned_placed es (n + 1) ps ++ pruned_placed es k qs) (omega arith))

-- as many as there are events
placed_length : (c : ℕ) (events : List Event) → length {A = ℕ × Event} (map (λ (e : Event). (c, e)) events) ≡ length events
placed_length c [] = refl
placed_length c (e ∷ rest) = ap suc (placed_length c rest)

-- those of all cores
cores_placed : (es : List ℕ) (n c : ℕ) (cores : List (List Event))
    → placed_from c (pruned_cores es n cores) ≡ pruned_placed es n (placed_from c cores)
unfolding pruned_placed
cores_placed es n c [] = refl
cores_placed es n c (core ∷ rest) =
    let here : List (ℕ × Event) = map (λ (e : Event). (c, e)) core in
    let later : List (ℕ × Event) = placed_from (c + 1) rest in
    ap (λ (l : List (ℕ × Event)). l ++ placed_from (c + 1) (pruned_cores es (n + length core) rest)) (core_placed es n c core)
    ∙ (ap (λ (l : List (ℕ × Event)). pruned_placed es n here ++ l) (cores_placed es (n + length core) (c + 1) rest)
    ∙ (ap (λ (k : ℕ). pruned_placed es n here ++ pruned_placed es (n + k) later) (sym (placed_length c core))
    ∙ sym (joined_placed es n here later)))

-- what stands at a place, also past the end
placed_at : (es : List ℕ) (n i : ℕ) (ps : List (ℕ × Event)) → get_or (pruned_placed es n ps) i (0, F)
    ≡ ((get_or ps i (0, F)).0, pruned_event es (n + i) (get_or ps i (0, F)).1)
unfolding pruned_placed
placed_at es n i [] = refl
placed_at es n zero (p ∷ ps) = ap (λ (k : ℕ). (p.0, pruned_event es k p.1)) (omega arith)
placed_at es n (suc i) (p ∷ ps) = placed_at es (n + 1) i ps
    ∙ ap (λ (k : ℕ). ((get_or ps i (0, F)).0, pruned_event es k (get_or ps i (0, F)).1)) (omega arith)

-- there are as many
count_placed : (es : List ℕ) (n : ℕ) (ps : List (ℕ × Event)) → length (pruned_placed es n ps) ≡ length ps
unfolding pruned_placed
count_placed es n [] = refl
count_placed es n (p ∷ ps) = ap suc (count_placed es (n + 1) ps)

-- one event more
pub one_event_more : (es : List ℕ) (n i : ℕ) (events : List Event) (d : Event) → i < length events
    → pruned_events es n (take (suc i) events)
    ≡ pruned_events es n (take i events) ++ pruned_event es (n + i) (get_or events i d) ∷ []
one_event_more es n i [] d h = absurd (omega (arith, h))
one_event_more es n zero (e ∷ rest) d h = ap (λ (k : ℕ). pruned_event es k e ∷ []) (omega arith)
one_event_more es n (suc i) (e ∷ rest) d h =
    ap (λ (l : List Event). pruned_event es n e ∷ l) (one_event_more es (n + 1) i rest d (omega (arith, h)))
    ∙ ap (λ (k : ℕ). pruned_event es n e ∷ (pruned_events es (n + 1) (take i rest)
    ++ pruned_event es k (get_or rest i d) ∷ [])) (omega arith)

-- how many events cores have
pub total : List (List Event) → ℕ
total [] = 0
total (core ∷ rest) = length core + total rest

-- none has none
pub total_none : 0 ≡ total []
unfolding total
total_none = refl

-- as many as there are
pub total_placed : (c : ℕ) (cores : List (List Event)) → length {A = ℕ × Event} (placed_from c cores) ≡ total cores
unfolding total
total_placed c [] = refl
total_placed c (core ∷ rest) =
    let here : List (ℕ × Event) = map (λ (e : Event). (c, e)) core in
    length-append here (placed_from (c + 1) rest)
    ∙ omega (arith, placed_length c core, total_placed (c + 1) rest)

-- with one core more
pub total_more : (i : ℕ) (cores : List (List Event)) → i < length cores
    → total (take (suc i) cores) ≡ total (take i cores) + length (get_or cores i [])
unfolding total
total_more i [] h = absurd (omega (arith, h))
total_more zero (core ∷ rest) h = omega arith
total_more (suc i) (core ∷ rest) h = omega (arith, total_more i rest (omega (arith, h)))

-- the first cores have no more than all
pub total_most : (i : ℕ) (cores : List (List Event)) → total (take i cores) ≤ total cores
unfolding total
total_most zero cores = omega arith
total_most (suc i) [] = omega arith
total_most (suc i) (core ∷ rest) = omega (arith, total_most i rest)

-- the first cores and the next one have no more events than there are
pub few_with_next : (x : Execution) (cores : List (List Event)) → cores ≡ x.cores → (i : ℕ) → i < length cores
    → total (take i cores) + length (get_or cores i []) ≤ event_count x
unfolding event_count
few_with_next x cores are i h = omega (
  arith,
  total_more i cores h,
  total_most (suc i) cores,
  total_placed 0 cores,
  ap (λ (l : List (List Event)). length {A = ℕ × Event} (placed_from 0 l)) are,
)

-- one core more
pub one_core_more : (es : List ℕ) (n i : ℕ) (cores : List (List Event)) → i < length cores
    → pruned_cores es n (take (suc i) cores)
    ≡ pruned_cores es n (take i cores) ++ pruned_events es (n + total (take i cores)) (get_or cores i []) ∷ []
unfolding total
one_core_more es n i [] h = absurd (omega (arith, h))
one_core_more es n zero (core ∷ rest) h = ap (λ (k : ℕ). pruned_events es k core ∷ []) (omega arith)
one_core_more es n (suc i) (core ∷ rest) h =
    ap (λ (l : List (List Event)). pruned_events es n core ∷ l)
    (one_core_more es (n + length core) i rest (omega (arith, h)))
    ∙ ap (λ (k : ℕ). pruned_events es n core ∷ (pruned_cores es (n + length core) (take i rest)
    ++ pruned_events es k (get_or rest i []) ∷ [])) (omega arith)

-- the address that a pruned event writes
writes_same : (es : List ℕ) (e : ℕ) (event : Event) → written_address (pruned_event es e event) ≡ written_address event
writes_same es e (L a r s) = refl
writes_same es e (S a w) = refl
writes_same es e (R a r s w) = go (stands_in es e)
  where
    go : (b : Bool) → written_address (cond b (R a r s w) (S a w)) ≡ Some a
    go true = refl
    go false = refl
writes_same es e (C a r s) = refl
writes_same es e F = refl

-- the value that it writes
written_same : (es : List ℕ) (e : ℕ) (event : Event) → value_written (pruned_event es e event) ≡ value_written event
written_same es e (L a r s) = refl
written_same es e (S a w) = refl
written_same es e (R a r s w) = go (stands_in es e)
  where
    go : (b : Bool) → value_written (cond b (R a r s w) (S a w)) ≡ w
    go true = refl
    go false = refl
written_same es e (C a r s) = refl
written_same es e F = refl

-- one that reads is as it was
reader_whole : (es : List ℕ) (e a : ℕ) (event : Event) → read_address (pruned_event es e event) ≡ Some a
    → pruned_event es e event ≡ event
reader_whole es e b (L a r s) h = refl
reader_whole es e b (S a w) h = refl
reader_whole es e b (R a r s w) h = go (stands_in es e) h
  where
    go : (t : Bool) → read_address (cond t (R a r s w) (S a w)) ≡ Some b → cond t (R a r s w) (S a w) ≡ R a r s w
    go true h = refl
    go false h = absurd cc
reader_whole es e b (C a r s) h = refl
reader_whole es e b F h = refl

-- and so is one that is one of these
kept_whole : (es : List ℕ) (e : ℕ) (event : Event) → stands_in es e ≡ true → pruned_event es e event ≡ event
kept_whole es e (L a r s) h = refl
kept_whole es e (S a w) h = refl
kept_whole es e (R a r s w) h = ap (λ (b : Bool). cond b (R a r s w) (S a w)) h
kept_whole es e (C a r s) h = refl
kept_whole es e F h = refl

-- as many cores
cores_count : (es : List ℕ) (n : ℕ) (cores : List (List Event)) → length (pruned_cores es n cores) ≡ length cores
cores_count es n [] = refl
cores_count es n (core ∷ rest) = ap suc (cores_count es (n + length core) rest)

-- it is made of its parts
pub pruned_from : (x : Execution) (es : List ℕ) (cores : List (List Event)) (lists : List (List ℕ)) (values : List ℕ)
    → cores ≡ pruned_cores es 0 x.cores → lists ≡ x.write_lists → values ≡ x.initial
    → executed cores lists values ≡ pruned x es
unfolding pruned
pruned_from x es cores lists values a b d =
    ap (λ (l : List (List Event)). executed l lists values) a
    ∙ (ap (λ (l : List (List ℕ)). executed (pruned_cores es 0 x.cores) l values) b
    ∙ ap (λ (v : List ℕ). executed (pruned_cores es 0 x.cores) x.write_lists v) d)

module _ (x : Execution) (es : List ℕ) where
  -- its numbered events
  numbered : placed_from 0 (pruned x es).cores ≡ pruned_placed es 0 (placed_from 0 x.cores)
  unfolding pruned
  numbered = cores_placed es 0 0 x.cores

  -- its events
  event_is : (e : ℕ) → event_at (pruned x es) e ≡ pruned_event es e (event_at x e)
  unfolding event_at
  event_is e = ap (λ (ps : List (ℕ × Event)). (get_or ps e (0, F)).1) numbered
      ∙ (ap (λ (p : ℕ × Event). p.1) (placed_at es 0 e (placed_from 0 x.cores))
      ∙ ap (λ (k : ℕ). pruned_event es k (get_or (placed_from 0 x.cores) e (0, F)).1) (omega arith))

  -- their cores
  core_is : (e : ℕ) → core_of (pruned x es) e ≡ core_of x e
  unfolding core_of
  core_is e = ap (λ (ps : List (ℕ × Event)). (get_or ps e (0, F)).0) numbered
      ∙ ap (λ (p : ℕ × Event). p.0) (placed_at es 0 e (placed_from 0 x.cores))

  -- their number
  pub count_is : event_count (pruned x es) ≡ event_count x
  unfolding event_count
  count_is = ap (λ (ps : List (ℕ × Event)). length ps) numbered ∙ count_placed es 0 (placed_from 0 x.cores)

  -- the write lists
  list_is : (a : ℕ) → write_list (pruned x es) a ≡ write_list x a
  unfolding write_list pruned
  list_is a = refl

  -- the initial values
  initial_is : (a : ℕ) → initial_value (pruned x es) a ≡ initial_value x a
  unfolding pruned
  initial_is a = refl

  -- what writes wrote
  written_down : (e a : ℕ) → Writes (pruned x es) e a → Writes x e a
  written_down e a h = sym (writes_same es e (event_at x e)) ∙ (sym (ap written_address (event_is e)) ∙ h)

  -- and what wrote writes
  written_up : (e a : ℕ) → Writes x e a → Writes (pruned x es) e a
  written_up e a h = ap written_address (event_is e) ∙ (writes_same es e (event_at x e) ∙ h)

  -- what reads is as it was
  reader_is : (e a : ℕ) → Reads (pruned x es) e a → event_at (pruned x es) e ≡ event_at x e
  reader_is e a h = event_is e ∙ reader_whole es e a (event_at x e) (sym (ap read_address (event_is e)) ∙ h)

  -- so it read
  reads_down : (e a : ℕ) → Reads (pruned x es) e a → Reads x e a
  reads_down e a h = sym (ap read_address (reader_is e a h)) ∙ h

  -- an event that is one of these is as it was
  member_is : (e : ℕ) → stands_in es e ≡ true → event_at (pruned x es) e ≡ event_at x e
  member_is e h = event_is e ∙ kept_whole es e (event_at x e) h

  -- program order is as it was
  order_down : (e f : ℕ) → ProgramOrder (pruned x es) e f → ProgramOrder x e f
  order_down e f h = (h.0, omega (arith, h.1, count_is), sym (core_is e) ∙ (h.2 ∙ core_is f))

  order_up : (e f : ℕ) → ProgramOrder x e f → ProgramOrder (pruned x es) e f
  order_up e f h = (h.0, omega (arith, h.1, count_is), core_is e ∙ (h.2 ∙ sym (core_is f)))

  -- what gave a value gives it
  gives : (a v : ℕ) (o : Option ℕ) → Gives x a o v → Gives (pruned x es) a o v
  gives a v None g = g ∙ sym (initial_is a)
  gives a v (Some w) g = (
    written_up w a g.0,
    ap value_written (event_is w) ∙ (written_same es w (event_at x w) ∙ g.1),
  )

  -- it is well formed
  pub pruned_well_formed : IsWellFormed x → IsWellFormed (pruned x es)
  pruned_well_formed wf = record {
    sources = λ e a h. subst (λ (event : Event). Gives (pruned x es) a (source event) (value_read event))
        (sym (reader_is e a h))
        (gives a (value_read (event_at x e)) (source_of x e) (wf.sources e a (reads_down e a h)));
    write_lists = λ a. record {
      once = λ e h. ap (λ (l : List ℕ). times l e) (list_is a) ∙ (wf.write_lists a).once e (written_down e a h);
      nothing_else = λ e h. written_up e a ((wf.write_lists a).nothing_else e
          (subst (λ (l : List ℕ). 0 < times l e) (list_is a) h));
    };
  }

  -- its cores are as many
  cores_few : length (pruned x es).cores ≡ length x.cores
  unfolding pruned
  cores_few = cores_count es 0 x.cores

  -- and so are its write lists
  lists_few : length (pruned x es).write_lists ≡ length x.write_lists
  unfolding pruned
  lists_few = refl

  -- and its initial values
  values_few : length (pruned x es).initial ≡ length x.initial
  unfolding pruned
  values_few = refl

  -- so it is a recording of the same size
  pub pruned_recording : (size : RecordingSize) → IsRecordingWithin size x → IsRecordingWithin size (pruned x es)
  pruned_recording size is = record {
    well_formed = pruned_well_formed is.well_formed;
    within = record {
      few_cores = omega (arith, is.within.few_cores, cores_few);
      few_events = omega (arith, is.within.few_events, count_is);
      few_addresses = omega (arith, is.within.few_addresses, lists_few);
      addresses = λ e a h. omega (
        arith,
        lists_few,
        is.within.addresses e a (elim h [
          | inl reads ↦ inl (reads_down e a reads)
          | inr writes ↦ inr (written_down e a writes)
        ]),
      );
      initial = omega (arith, is.within.initial, lists_few, values_few);
    };
  }

  -- an overlook was one
  pub overlook_down : (l s : ℕ) → Overlooks (pruned x es) l s → Overlooks x l s
  overlook_down l s h = (
    h.0,
    reads_down l h.0 h.1,
    written_down s h.0 h.2,
    order_down s l h.3,
    subst (λ (event : Event). IsOlder (write_list x h.0) (source event) s) (reader_is l h.0 h.1)
        (subst (λ (ws : List ℕ). IsOlder ws (source_of (pruned x es) l) s) (list_is h.0) h.4),
  )

  -- and one of a member is one
  pub overlook_up : (l s : ℕ) → stands_in es l ≡ true → Overlooks x l s → Overlooks (pruned x es) l s
  overlook_up l s here h = (
    h.0,
    ap read_address (member_is l here) ∙ h.1,
    written_up s h.0 h.2,
    order_up s l h.3,
    subst (λ (event : Event). IsOlder (write_list (pruned x es) h.0) (source event) s) (sym (member_is l here))
        (subst (λ (ws : List ℕ). IsOlder ws (source_of x l) s) (sym (list_is h.0)) h.4),
  )

  -- the least overlook of a member is the least
  pub least_overlook_up : (l s : ℕ) → stands_in es l ≡ true → IsLeastOverlook x l s → IsLeastOverlook (pruned x es) l s
  least_overlook_up l s here is = record {
    overlooks = overlook_up l s here is.overlooks;
    least = λ k t h. is.least k t (overlook_down k t h);
  }

  -- where there was no overlook there is none
  pub no_overlook_up : HasNoOverlook x → HasNoOverlook (pruned x es)
  no_overlook_up none l s h = none l s (overlook_down l s h)

  -- the reasons between members are as they were
  module _ (e f : ℕ) (he : stands_in es e ≡ true) (hf : stands_in es f ≡ true) where
    -- whether they are a plain store and a plain load
    plain_is : (is_plain_store (event_at (pruned x es) e) && is_plain_load (event_at (pruned x es) f))
        ≡ (is_plain_store (event_at x e) && is_plain_load (event_at x f))
    plain_is = ap (λ (event : Event). is_plain_store event && is_plain_load (event_at (pruned x es) f)) (member_is e he)
        ∙ ap (λ (event : Event). is_plain_store (event_at x e) && is_plain_load event) (member_is f hf)

    reason_down : (reason : Reason) → Holds (pruned x es) reason e f → Holds x reason e f
    reason_down Po h = (order_down e f h.0, sym plain_is ∙ h.1)
    reason_down Wo h = (h.0, subst (λ (ws : List ℕ). Before ws e f) (list_is h.0) h.1)
    reason_down Rf h = (sym (ap source (member_is f hf)) ∙ h.0, λ own. h.1 (order_up e f own))
    reason_down Fr h = (
      h.0,
      reads_down e h.0 h.1,
      written_down f h.0 h.2,
      h.3,
      λ own. h.4 (order_up f e own),
      subst (λ (event : Event). IsOlder (write_list x h.0) (source event) f) (member_is e he)
          (subst (λ (ws : List ℕ). IsOlder ws (source_of (pruned x es) e) f) (list_is h.0) h.5),
    )

    reason_up : (reason : Reason) → Holds x reason e f → Holds (pruned x es) reason e f
    reason_up Po h = (order_up e f h.0, plain_is ∙ h.1)
    reason_up Wo h = (h.0, subst (λ (ws : List ℕ). Before ws e f) (sym (list_is h.0)) h.1)
    reason_up Rf h = (ap source (member_is f hf) ∙ h.0, λ own. h.1 (order_down e f own))
    reason_up Fr h = (
      h.0,
      ap read_address (member_is e he) ∙ h.1,
      written_up f h.0 h.2,
      h.3,
      λ own. h.4 (order_down f e own),
      subst (λ (event : Event). IsOlder (write_list (pruned x es) h.0) (source event) f) (sym (member_is e he))
          (subst (λ (ws : List ℕ). IsOlder ws (source_of x e) f) (sym (list_is h.0)) h.5),
    )

    -- and so are the forced pairs
    pub forced_between : Forced (pruned x es) e f ↔ Forced x e f
    forced_between = (λ h. (h.0, reason_down h.0 h.1), λ h. (h.0, reason_up h.0 h.1))
