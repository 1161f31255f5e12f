-- Recordings of values that leave no choice are one.
use Rattle.std.proofs.Common.{◌≡◌, ◌<◌, ◌≤◌, ◌+◌, ℕ, Option, Some, None, List, [], ◌∷◌, map, take, length, get_or}
use Rattle.std.proofs.Common.{arith}
use Rattle.std.proofs.Common.{refl, sym, ap, subst, ◌∙◌}
use Rattle.std.specs.List.{sum}
use Rattle.std.proofs.Math.ListN as lists
use Rattle.std.proofs.lemmas.Bool.Decides.{nat_tests}
use Rattle.std.proofs.lemmas.List.{ext_get_or, length-map}
use Rattle.recording.specs.declared.event.Event.{Event}
use Rattle.recording.specs.declared.event.Event.TheVariants.{L, S, R, C, F}
use Rattle.recording.specs.Event.{read_address, source, value_read}
use Rattle.recording.specs.Execution.{Execution, event_at, placed_from, source_of, write_list, Reads, Writes}
use Rattle.recording.specs.Order.{Enumerates, times}
use Rattle.recording.specs.OrderLaws.{times_here, times_nil}
use Rattle.recording.specs.PlacedLaws.{placed_at}
use Rattle.recording.specs.Recording.{executed}
use Rattle.recording.specs.Tso.{Gives}
use Rattle.values.specs.Values.{Values, unsourced}
use Rattle.values.specs.Refused.{events_alone}
use Rattle.completion.specs.Only.{AreDetermined, HasValues, IsFeeder, LeaveNoChoice, MayGiveValue}
use Rattle.completion.specs.Part.{MayFeed}
use Rattle.completion.proofs.Alone.{event_with, reads_with, value_with, with_writes, writes_with, written_with}
use Rattle.completion.proofs.Chosen.{feeds, gives}
use Rattle.completion.proofs.Hopeful.{same_address}

-- Events

-- an event with another source, where it reads
resourced : Event → Option ℕ → Event
resourced (L a r o) s = L a r s
resourced (S a w) s = S a w
resourced (R a r o w) s = R a r s w
resourced (C a r o) s = C a r s
resourced F s = F

-- an event is known by its source and the rest
resourced_same : (ev : Event) → resourced (unsourced ev) (source ev) ≡ ev
unfolding resourced
resourced_same (L a r o) = refl
resourced_same (S a w) = refl
resourced_same (R a r o w) = refl
resourced_same (C a r o) = refl
resourced_same F = refl

event_same : (p q : Event) → unsourced p ≡ unsourced q → source p ≡ source q → p ≡ q
event_same p q rest from =
    sym (resourced_same p)
    ∙ (ap (λ (e : Event). resourced e (source p)) rest
    ∙ (ap (λ (o : Option ℕ). resourced (unsourced q) o) from ∙ resourced_same q))

-- what does not read has no source
pub no_source : (ev : Event) → read_address ev ≡ None → source ev ≡ None
no_source (L a r o) h = absurd cc
no_source (S a w) h = refl
no_source (R a r o w) h = absurd cc
no_source (C a r o) h = absurd cc
no_source F h = refl

-- Cores

-- cores with as many events each, which are the same by their numbers, are the same
same_cores : (X Y : List (List Event)) → map (λ es. length es) X ≡ map (λ es. length es) Y
    → ((n : ℕ) → (get_or (placed_from 0 X) n (0, F)).1 ≡ (get_or (placed_from 0 Y) n (0, F)).1) → X ≡ Y
same_cores X Y sizes same = ext_get_or [] X Y count (λ c inside.
    ext_get_or F (get_or X c []) (get_or Y c []) (size c) (λ i there.
    let ours = placed_at 0 X c i F there in
    let theirs = placed_at 0 Y c i F (omega (arith, there, size c)) in
    let fence : ℕ × Event = (0, F) in
    ap (λ (p : ℕ × Event). p.1) (sym ours.0)
    ∙ (same (sum (take c (map (λ es. length es) X)) + i)
    ∙ (ap (λ (l : List ℕ). (get_or (placed_from 0 Y) (sum (take c l) + i) fence).1) sizes
    ∙ ap (λ (p : ℕ × Event). p.1) theirs.0))))
  where
    count : length X ≡ length Y
    count = sym (length-map X (λ (es : List Event). length es))
        ∙ (ap (λ (l : List ℕ). length l) sizes ∙ length-map Y (λ (es : List Event). length es))

    size : (c : ℕ) → length (get_or X c []) ≡ length (get_or Y c [])
    size c = sym (lists.get_or-map (λ (es : List Event). length es) X c [])
        ∙ (ap (λ (l : List ℕ). get_or l c 0) sizes ∙ lists.get_or-map (λ (es : List Event). length es) Y c [])

-- without sources there are as many events
sizes_alone : (X : List (List Event))
    → map (λ es. length es) (map (map unsourced) X) ≡ map (λ es. length es) X
sizes_alone [] = refl
sizes_alone (es ∷ X) =
    ap (λ (n : ℕ). n ∷ map (λ (fs : List Event). length fs) (map (map unsourced) X)) (length-map es unsourced)
    ∙ ap (λ (l : List ℕ). length es ∷ l) (sizes_alone X)

-- Write lists

-- the second thing of a list stands in it
second_in : (x z : ℕ) (xs : List ℕ) → 0 < times (x ∷ z ∷ xs) z
unfolding times
second_in x z xs = grind (arith, nat_tests)

-- a list that has each thing once does not begin with one twice
twice_no : (P : ℕ → Type 0) (x z : ℕ) (xs : List ℕ) → Enumerates P (x ∷ z ∷ xs)
    → ((e f : ℕ) → P e → P f → e ≡ f) → 1 ≤ 0
twice_no P x z xs e one =
    let px : P x = e.nothing_else x (omega (arith, times_here (z ∷ xs) x x refl)) in
    let pz : P z = e.nothing_else z (second_in x z xs) in
    let at : x ≡ z = one x z px pz in
    omega (arith, e.once x px, times_here (z ∷ xs) x x refl, times_here xs z x (sym at))

-- a list of one thing at most, which has it once, is that of another such list
same_list : (P Q : ℕ → Type 0) → ((e : ℕ) → P e → Q e) → ((e : ℕ) → Q e → P e)
    → ((e f : ℕ) → P e → P f → e ≡ f) → (xs ys : List ℕ) → Enumerates P xs → Enumerates Q ys → xs ≡ ys
same_list P Q to from one [] [] ex ey = refl
same_list P Q to from one [] (y ∷ ys) ex ey =
    let it : P y = from y (ey.nothing_else y (omega (arith, times_here ys y y refl))) in
    absurd (omega (arith, ex.once y it, times_nil y))
same_list P Q to from one (x ∷ xs) [] ex ey =
    let it : Q x = to x (ex.nothing_else x (omega (arith, times_here xs x x refl))) in
    absurd (omega (arith, ey.once x it, times_nil x))
same_list P Q to from one (x ∷ []) (y ∷ []) ex ey =
    let px : P x = ex.nothing_else x (omega (arith, times_here [] x x refl)) in
    let py : P y = from y (ey.nothing_else y (omega (arith, times_here [] y y refl))) in
    ap (λ (n : ℕ). n ∷ []) (one x y px py)
same_list P Q to from one (x ∷ []) (y ∷ z ∷ ys) ex ey =
    absurd (omega (arith, twice_no Q y z ys ey (λ e f he hf. one e f (from e he) (from f hf))))
same_list P Q to from one (x ∷ z ∷ xs) (y ∷ ys) ex ey = absurd (omega (arith, twice_no P x z xs ex one))

-- what is listed under one name is listed under another
listed_as : (P Q : ℕ → Type 0) → ((e : ℕ) → P e → Q e) → ((e : ℕ) → Q e → P e) → (xs : List ℕ) → Enumerates P xs
    → Enumerates Q xs
listed_as P Q to from xs h = record {
  once = λ e q. h.once e (from e q);
  nothing_else = λ e there. to e (h.nothing_else e there);
}

-- Recordings

-- an execution with the events of values has as many on each core
sizes_with : (v : Values) (x : Execution) → map (map unsourced) x.cores ≡ v.cores
    → map (λ es. length es) x.cores ≡ map (λ es. length es) v.cores
sizes_with v x cores = sym (sizes_alone x.cores) ∙ ap (λ (l : List (List Event)). map (λ (es : List Event). length es) l) cores

-- and no source where nothing is read
none_with : (v : Values) (x : Execution) → map (map unsourced) x.cores ≡ v.cores → (e : ℕ)
    → read_address (event_at (events_alone v) e) ≡ None → source_of x e ≡ None
none_with v x cores e none = no_source (event_at x e)
    (sym (same_address (event_at x e)) ∙ (ap read_address (sym (event_with v x cores e)) ∙ none))

module _ (v : Values) (x : Execution) (h : HasValues v x) where
  -- a source that gives a value in the recording gives it in the values
  gives_has : (a : ℕ) (s : Option ℕ) (n : ℕ) → Gives x a s n → Gives (events_alone v) a s n
  gives_has a None n g = g ∙ ap (λ (l : List ℕ). get_or l a 0) h.initial
  gives_has a (Some w) n g = (with_writes v x h.cores w a g.0, written_with v x h.cores w ∙ g.1)

  -- the source of a read gives it its value
  source_has : (e a : ℕ) → Reads (events_alone v) e a → MayGiveValue v e (source_of x e)
  source_has e a reads = record {
    address = a;
    reads = reads;
    gives = subst (λ (n : ℕ). Gives (events_alone v) a (source_of x e) n) (sym (value_with v x h.cores e))
        (gives_has a (source_of x e) (value_read (event_at x e))
        (h.recording.well_formed.sources e a (reads_with v x h.cores e a reads)));
    known = λ t known. sym (h.sources e t known);
  }

  -- as many write lists as initial values
  lists_has : length x.write_lists ≡ length v.initial
  lists_has = sym h.recording.within.initial ∙ ap (λ (l : List ℕ). length l) h.initial

-- an execution with the events of values, with the sources of a recording of them and with all writes in its lists, is
-- that recording, where each address has one write
module _ (v : Values) (x y : Execution) (hx : HasValues v x) (cores : map (map unsourced) y.cores ≡ v.cores)
    (initial : y.initial ≡ v.initial) (lists : length y.write_lists ≡ length v.initial)
    (sources : (e : ℕ) → source_of y e ≡ source_of x e)
    (writes : (a : ℕ) → a < length v.initial → Enumerates (λ e. Writes (events_alone v) e a) (get_or y.write_lists a []))
    (once : (a w u : ℕ) → Writes (events_alone v) w a → Writes (events_alone v) u a → w ≡ u) where
  events_same : (e : ℕ) → event_at y e ≡ event_at x e
  events_same e = event_same (event_at y e) (event_at x e)
      (sym (event_with v y cores e) ∙ event_with v x hx.cores e) (sources e)

  cores_same : y.cores ≡ x.cores
  unfolding event_at
  cores_same = same_cores y.cores x.cores (sizes_with v y cores ∙ sym (sizes_with v x hx.cores)) events_same

  lists_same : y.write_lists ≡ x.write_lists
  unfolding write_list
  lists_same = ext_get_or [] y.write_lists x.write_lists (lists ∙ sym (lists_has v x hx))
      (λ a inside. same_list (λ e. Writes (events_alone v) e a) (λ e. Writes x e a)
      (λ e w. writes_with v x hx.cores e a w) (λ e w. with_writes v x hx.cores e a w) (once a)
      (get_or y.write_lists a []) (get_or x.write_lists a []) (writes a (omega (arith, inside, lists)))
      (hx.recording.well_formed.write_lists a))

  is_same : y ≡ x
  is_same =
      ap (λ (l : List (List Event)). executed l y.write_lists y.initial) cores_same
      ∙ (ap (λ (l : List (List ℕ)). executed x.cores l y.initial) lists_same
      ∙ ap (λ (l : List ℕ). executed x.cores x.write_lists l) (initial ∙ sym hx.initial))

-- two recordings of values that leave no choice
module _ (v : Values) (x y : Execution) (is : AreDetermined v) (hx : HasValues v x) (hy : HasValues v y) where
  sources_same : (e : ℕ) → source_of y e ≡ source_of x e
  sources_same e = go (read_address (event_at (events_alone v) e)) refl
    where
      go : (o : Option ℕ) → read_address (event_at (events_alone v) e) ≡ o → source_of y e ≡ source_of x e
      go None none = none_with v y hy.cores e none ∙ sym (none_with v x hx.cores e none)
      go (Some a) reads = is.sources e (source_of y e) (source_of x e) (source_has v y hy e a reads)
          (source_has v x hx e a reads)

  -- they are one
  pub recordings_same : y ≡ x
  unfolding write_list
  recordings_same = is_same v x y hx hy.cores hy.initial (lists_has v y hy) sources_same
      (λ a inside. listed_as (λ e. Writes y e a) (λ e. Writes (events_alone v) e a)
      (λ e w. with_writes v y hy.cores e a w) (λ e w. writes_with v y hy.cores e a w) (get_or y.write_lists a [])
      (hy.recording.well_formed.write_lists a)) is.writes

-- what is made of values that leave no choice is their recording, if they have one
module _ (v : Values) (x y : Execution) (is : LeaveNoChoice v) (hx : HasValues v x)
    (cores : map (map unsourced) y.cores ≡ v.cores) (initial : y.initial ≡ v.initial)
    (lists : length y.write_lists ≡ length v.initial)
    (fed : (e a : ℕ) → Reads (events_alone v) e a → IsFeeder v e (source_of y e))
    (writes : (a : ℕ) → a < length v.initial → Enumerates (λ e. Writes (events_alone v) e a) (get_or y.write_lists a []))
  where
    feeder_is : (e : ℕ) (s t : Option ℕ) → IsFeeder v e s → MayFeed v e t → s ≡ t
    feeder_is e None None none may = refl
    feeder_is e None (Some w) none may = absurd (none w may)
    feeder_is e (Some w) t feeder may = (is e).sources (Some w) t (gives v e (Some w) feeder) (gives v e t may)

    sources_made : (e : ℕ) → source_of y e ≡ source_of x e
    sources_made e = go (read_address (event_at (events_alone v) e)) refl
      where
        go : (o : Option ℕ) → read_address (event_at (events_alone v) e) ≡ o → source_of y e ≡ source_of x e
        go None none = none_with v y cores e none ∙ sym (none_with v x hx.cores e none)
        go (Some a) reads = feeder_is e (source_of y e) (source_of x e) (fed e a reads)
            (feeds v e (is e).other (source_of x e) (source_has v x hx e a reads))

    pub made_same : y ≡ x
    made_same = is_same v x y hx cores initial lists sources_made writes (λ a w u. (is w).writes a u)
