-- Values with all of their events are these values.
use Rattle.std.proofs.Common.{◌≡◌, ◌≢◌, ◌<◌, ◌≤◌, ◌+◌, ◌==◌, ◌++◌, inl, inr, ℕ, zero, suc, Bool, true, false, cond}
use Rattle.std.proofs.Common.{Option, Some, None, List, [], ◌∷◌, map, length, get_or, option_map}
use Rattle.std.proofs.Common.{arith, refl, sym, ap, subst, ◌∙◌}
use Rattle.std.specs.Prelude.{filter}
use Rattle.std.proofs.Math.ListN as lists
use Rattle.std.proofs.lemmas.Bool.{cases_eq}
use Rattle.std.proofs.lemmas.Bool.Decides.{nat_tests}
use Rattle.std.proofs.lemmas.List.{append-nil, ext_get_or, get_or_default, get_or_past, length-map}
use Rattle.std.proofs.lemmas.List.Elements.{filter-append}
use Rattle.recording.specs.declared.event.Event.{Event}
use Rattle.recording.specs.declared.event.Event.TheVariants.{F}
use Rattle.recording.specs.EventLaws.{Writes-event}
use Rattle.recording.specs.Execution.{core_of, event_at, event_count, placed_from}
use Rattle.recording.specs.Order.{place}
use Rattle.recording.specs.OrderLaws.{place_in, times_append, times_here, times_nil, times_there}
use Rattle.recording.specs.PlaceLaws.{at_place, times_at}
use Rattle.values.specs.Refused.{events_alone, ObeyRules}
use Rattle.values.specs.Values.{core_events, known_final, known_source, AreAllowed, IsCompletion, Values}
use Rattle.completion.specs.Left.{IsAllowedWith, IsInRow}
use Rattle.completion.specs.Part.{events_on, source_in, AreEvents, AreFed, AreMostFed, IsAmong, IsMember}
use Rattle.completion.specs.Part.{IsRestriction, MayFeed}
use Rattle.completion.specs.Situation.{each}
use Rattle.completion.proofs.Places.{each_at, each_size}

-- Lists of numbers

-- n numbers from b on
abbrev numbers : ℕ → ℕ → List ℕ
numbers n b = each n b (λ k. k)

-- an ascending list of just these numbers
ascending_all : (ks : List ℕ) (n b : ℕ)
    → ((i j : ℕ) → i < j → j < length ks → get_or ks i 0 < get_or ks j 0)
    → ((e : ℕ) → IsMember ks e → (b ≤ e) × (e < b + n)) → ((e : ℕ) → b ≤ e → e < b + n → IsMember ks e)
    → ks ≡ numbers n b
ascending_all [] zero b up within all = refl
ascending_all [] (suc n) b up within all = absurd (omega (arith, times_nil b, all b (omega arith) (omega arith)))
ascending_all (k ∷ ks) zero b up within all =
    let none = within k (omega (arith, times_here ks k k refl)) in absurd (omega (arith, none.0, none.1))
ascending_all (k ∷ ks) (suc n) b up within all =
    ap (λ (z : ℕ). z ∷ ks) first
    ∙ ap (λ (l : List ℕ). b ∷ l) (ascending_all ks n (b + 1)
    (λ i j less inside. up (suc i) (suc j) (omega (arith, less))
    (omega (arith, inside))) (λ e there.
    let inside = within e (omega (arith, there, times_append (k ∷ []) ks e)) in
    (omega (arith, later e there, first), omega (arith, inside.1))) (λ e from below.
    let there = all e (omega (arith, from)) (omega (arith, below)) in
    omega (arith, there, times_there ks k e (λ (same : k ≡ e). omega (arith, same, first, from)))))
  where
    later : (e : ℕ) → IsMember ks e → k < e
    later e there =
        let at = place_in ks e there in
        omega (arith, up zero (suc (place ks e)) (omega arith) (omega (arith, at)), at_place ks e at)

    first : k ≡ b
    first = elim (cases_eq k b) [
      | inl same ↦ same
      | inr other ↦
          let there = all b (omega arith) (omega arith) in
          let after = later b (omega (arith, there, times_there ks k b other)) in
          absurd (omega (arith, after, (within k (omega (arith, times_here ks k k refl))).0))
    ]

-- Events of one core

cond_map : {A B : Type 0} → (g : A → B) (t : Bool) (x : A) (xs : List A)
    → map g (cond t (x ∷ xs) xs) ≡ cond t (g x ∷ map g xs) (map g xs)
cond_map g true x xs = refl
cond_map g false x xs = refl

-- what is picked by number is picked
picked : (f : ℕ → ℕ × Event) (c b : ℕ) (l : List (ℕ × Event))
    → ((i : ℕ) → i < length l → f (b + i) ≡ get_or l i (0, F))
    → map (λ k. (f k).1) (filter (λ k. (f k).0 == c) (numbers (length l) b))
    ≡ map (λ (p : ℕ × Event). p.1) (filter (λ (p : ℕ × Event). p.0 == c) l)
picked f c b [] at = refl
picked f c b (p ∷ l) at =
    let here : f b ≡ p = (let same : b ≡ b + 0 = omega arith in ap f same ∙ at zero (omega arith)) in
    let rest = picked f c (b + 1) l (λ i h.
    let same : b + 1 + i ≡ b + suc i = omega arith in ap f same ∙ at (suc i) (omega (arith, h))) in
    let by_number = filter (λ k. (f k).0 == c) (numbers (length l) (b + 1)) in
    let by_core = filter (λ (q : ℕ × Event). q.0 == c) l in
    cond_map (λ k. (f k).1) ((f b).0 == c) b by_number
    ∙ (ap (λ (q : ℕ × Event). cond (q.0 == c) (q.1 ∷ map (λ k. (f k).1) by_number) (map (λ k. (f k).1) by_number)) here
    ∙ (ap (λ (es : List Event). cond (p.0 == c) (p.1 ∷ es) es) rest
    ∙ sym (cond_map (λ (q : ℕ × Event). q.1) (p.0 == c) p by_core)))

-- the events of a core with its number are these events
all_tagged : (c : ℕ) (es : List Event)
    → map (λ (p : ℕ × Event). p.1) (filter (λ (p : ℕ × Event). p.0 == c) (map (λ e. (c, e)) es)) ≡ es
all_tagged c [] = refl
all_tagged c (e ∷ es) =
    let rest = filter (λ (p : ℕ × Event). p.0 == c) (map (λ (d : Event). (c, d)) es) in
    let same : (c == c) ≡ true = grind (arith, nat_tests) in
    let one : ℕ × Event = (c, e) in
    cond_map (λ (p : ℕ × Event). p.1) (c == c) one rest
    ∙ (ap (λ (t : Bool). cond t (e ∷ map (λ (p : ℕ × Event). p.1) rest) (map (λ (p : ℕ × Event). p.1) rest)) same
    ∙ ap (λ (l : List Event). e ∷ l) (all_tagged c es))

-- those of another are not picked
none_tagged : (k c : ℕ) (es : List Event) → k ≢ c
    → filter (λ (p : ℕ × Event). p.0 == c) (map (λ e. (k, e)) es) ≡ []
none_tagged k c [] other = refl
none_tagged k c (e ∷ es) other =
    let rest = filter (λ (p : ℕ × Event). p.0 == c) (map (λ (d : Event). (k, d)) es) in
    let differ : (k == c) ≡ false = grind (arith, nat_tests, other) in
    let one : ℕ × Event = (k, e) in
    ap (λ (t : Bool). cond t (one ∷ rest) rest) differ ∙ none_tagged k c es other

none_later : (k c : ℕ) (cores : List (List Event)) → c < k
    → filter (λ (p : ℕ × Event). p.0 == c) (placed_from k cores) ≡ []
none_later k c [] less = refl
none_later k c (es ∷ cores) less =
    filter-append (λ (p : ℕ × Event). p.0 == c) (map (λ (e : Event). (k, e)) es) (placed_from (k + 1) cores)
    ∙ (ap (λ (l : List (ℕ × Event)). l ++ filter (λ (p : ℕ × Event). p.0 == c) (placed_from (k + 1) cores))
    (none_tagged k c es (λ (same : k ≡ c). omega (arith, same, less)))
    ∙ none_later (k + 1) c cores (omega (arith, less)))

-- what is picked of all cores are the events of the core
on_core : (k d : ℕ) (cores : List (List Event))
    → map (λ (p : ℕ × Event). p.1) (filter (λ (p : ℕ × Event). p.0 == k + d) (placed_from k cores)) ≡ get_or cores d []
on_core k d [] = sym (get_or_past [] d [] (omega arith))
on_core k zero (es ∷ cores) =
    let same : k + 0 ≡ k = omega arith in
    ap (λ (c : ℕ).
    map (λ (p : ℕ × Event). p.1) (filter (λ (p : ℕ × Event). p.0 == c) (placed_from k (es ∷ cores)))) same
    ∙ (ap (map (λ (p : ℕ × Event). p.1))
    (filter-append (λ (p : ℕ × Event). p.0 == k) (map (λ (e : Event). (k, e)) es) (placed_from (k + 1) cores)
    ∙ (ap (λ (l : List (ℕ × Event)). filter (λ (p : ℕ × Event). p.0 == k) (map (λ (e : Event). (k, e)) es) ++ l)
    (none_later (k + 1) k cores (omega arith))
    ∙ append-nil (filter (λ (p : ℕ × Event). p.0 == k) (map (λ (e : Event). (k, e)) es))))
    ∙ all_tagged k es)
on_core k (suc d) (es ∷ cores) =
    let same : k + suc d ≡ k + 1 + d = omega arith in
    let q = (λ (p : ℕ × Event). p.0 == k + suc d) in
    ap (map (λ (p : ℕ × Event). p.1))
    (filter-append q (map (λ (e : Event). (k, e)) es) (placed_from (k + 1) cores)
    ∙ ap (λ (l : List (ℕ × Event)). l ++ filter q (placed_from (k + 1) cores))
    (none_tagged k (k + suc d) es (λ (clash : k ≡ k + suc d). omega (arith, clash))))
    ∙ (ap (λ (c : ℕ).
    map (λ (p : ℕ × Event). p.1) (filter (λ (p : ℕ × Event). p.0 == c) (placed_from (k + 1) cores))) same
    ∙ on_core (k + 1) d cores)

-- All events

module _ (v : Values) where
  -- all events by their numbers
  abbrev all : List ℕ
  all = numbers (event_count (events_alone v)) 0

  all_size : length all ≡ event_count (events_alone v)
  all_size = each_size (event_count (events_alone v)) 0 (λ k. k)

  all_at : (e : ℕ) → e < event_count (events_alone v) → get_or all e 0 ≡ e
  all_at e h = each_at (event_count (events_alone v)) 0 e (λ k. k) h ∙ omega arith

  all_in : (e : ℕ) → e < event_count (events_alone v) → IsMember all e
  all_in e h = subst (λ (k : ℕ). IsMember all k) (all_at e h) (times_at all e (omega (arith, h, all_size)))

  all_below : (e : ℕ) → IsMember all e → e < event_count (events_alone v)
  all_below e h =
      let at = place_in all e h in
      omega (arith, at, all_size, at_place all e at, all_at (place all e) (omega (arith, at, all_size)))

  among_all : (e : ℕ) (s : Option ℕ) → MayFeed v e s → IsAmong (IsMember all) s
  among_all e None may = tt
  among_all e (Some w) may = all_in w (Writes-event (events_alone v) w may.address may.gives.0)

  -- each is fed among all
  all_fed : AreFed v (IsMember all)
  all_fed e s inside may = (s, may, among_all e s may)

  -- so the most of all are all
  most_is_all : (ks : List ℕ) → AreEvents v ks
      → AreMostFed v (λ e. e < event_count (events_alone v)) ks → ks ≡ all
  most_is_all ks events most = ascending_all ks (event_count (events_alone v)) 0 events.ascending
      (λ e there. (omega arith, omega (arith, events.events e there)))
      (λ e from below. most.most all all_fed (λ f h. all_below f h) e (all_in e (omega (arith, below))))

  events_whole : (c : ℕ) → events_on v all c ≡ core_events v c
  unfolding event_count event_at core_of
  events_whole c =
      let same : 0 + c ≡ c = omega arith in
      picked (λ k. get_or (placed_from 0 v.cores) k (0, F)) c 0 (placed_from 0 v.cores) (λ i h.
      let at : 0 + i ≡ i = omega arith in
      ap (λ (k : ℕ). get_or (placed_from 0 v.cores) k (0, F)) at)
      ∙ (ap (λ (d : ℕ). map (λ (p : ℕ × Event). p.1) (filter (λ (p : ℕ × Event). p.0 == d) (placed_from 0 v.cores)))
      (sym same) ∙ on_core 0 c v.cores)

  module _ (rules : ObeyRules v) (w : Values) (is : IsRestriction v all w) where
    cores_whole : w.cores ≡ v.cores
    cores_whole = ext_get_or [] w.cores v.cores is.core_count
        (λ c h. is.cores c (omega (arith, h, is.core_count)) ∙ events_whole c)

    place_whole : (t : ℕ) → t < event_count (events_alone v) → place all t ≡ t
    place_whole t h =
        let at = place_in all t (all_in t h) in
        sym (all_at (place all t) (omega (arith, at, all_size))) ∙ at_place all t at

    source_whole : (e : ℕ) (s : Option ℕ) → known_source v e ≡ Some s → option_map (place all) s ≡ s
    source_whole e None known = refl
    source_whole e (Some t) known =
        let has = rules.sources e (Some t) known in
        ap (λ (k : ℕ). Some k) (place_whole t (Writes-event (events_alone v) t has.0 has.2))

    sources_whole : (e : ℕ) (s : Option ℕ) → known_source v e ≡ Some s → known_source w e ≡ Some s
    sources_whole e s known =
        let inside : e < event_count (events_alone v) = omega (arith, rules.within.sources, below e s known) in
        ap (λ (l : List (Option (Option ℕ))). get_or l e None) is.sources
        ∙ (get_or_default (map (source_in v all) all) e None (source_in v all 0)
        (omega (arith, inside, all_size, length-map all (source_in v all)))
        ∙ (lists.get_or-map (source_in v all) all e 0
        ∙ (ap (source_in v all) (all_at e inside)
        ∙ (ap (option_map (option_map (place all))) known ∙ ap (λ (t : Option ℕ). Some t) (source_whole e s known)))))
      where
        below : (f : ℕ) (t : Option ℕ) → known_source v f ≡ Some t → f < length v.sources
        below f t h = grind (arith, get_or_past v.sources f None, h)

    finals_whole : (a n : ℕ) → known_final v a ≡ Some n → known_final w a ≡ Some n
    finals_whole a n known = is.finals_kept a n known (λ u writes.
        (u, writes, all_in u (Writes-event (events_alone v) u a writes.writes)))

    completes_whole : (x : _) (m : List ℕ) → IsCompletion w x m → IsCompletion v x m
    completes_whole x m h = record {
      cores = h.cores ∙ cores_whole;
      initial = h.initial ∙ is.initial;
      sources = λ e s known. h.sources e s (sources_whole e s known);
      final_values = λ a n known. h.final_values a n (finals_whole a n known);
      recording = h.recording;
      tso = h.tso;
    }

-- what is allowed with all events is allowed
pub whole_allowed : (v : Values) (row : List Bool) → ObeyRules v → ((e : ℕ) → e < event_count (events_alone v)
    → IsInRow row e) → ((e : ℕ) → IsInRow row e → e < event_count (events_alone v)) → IsAllowedWith v row
    → AreAllowed v
whole_allowed v row rules every only with =
    let most = with.3 in
    let ks : with.0 ≡ all v = most_is_all v with.0 with.2 (record {
      these = λ e h. only e (most.these e h);
      fed = most.fed;
      most = λ es fed those. most.most es fed (λ e h. every e (those e h));
    }) in
    let is = subst (λ (l : List ℕ). IsRestriction v l with.1) ks with.4 in
    (with.5.0, with.5.1, completes_whole v rules with.1 is with.5.0 with.5.1 with.5.2)
