-- Lists of events to which one more is added, and the writes among them.
use Rattle.std.proofs.Common.{◌≡◌, ◌≢◌, ◌<◌, ◌≤◌, ◌+◌, ◌-◌, ◌⊎◌, ◌∙◌, inl, inr, ℕ, zero, suc, Bool, true, false, cond}
use Rattle.std.proofs.Common.{Option, Some, None, List, [], ◌∷◌, ◌++◌, length, get_or, take, drop, arith, refl, sym, ap}
use Rattle.std.proofs.Common.{subst}
use Rattle.std.proofs.Common.{length-append}
use Rattle.std.specs.List.{filter}
use Rattle.std.proofs.lemmas.Bool.{cases_eq, cases_lt, eq-eqb, eqb-true}
use Rattle.std.proofs.lemmas.List.{append-nil, get_or_push, take-append-drop, take-append-le, take_all, take_more}
use Rattle.std.proofs.lemmas.List.Elements.{filter-append}
use Rattle.std.proofs.lemmas.Option.{slice_get-get_or, slice_get_past, same_Some}
use Rattle.recording.specs.Event.{written_address}
use Rattle.recording.specs.EventLaws.{Writes-event}
use Rattle.recording.specs.Execution.{event_at, event_count, Writes}
use Rattle.recording.specs.Order.{place, times, Before, Enumerates}
use Rattle.recording.specs.OrderLaws.{times_here, times_there, times_nil, times_append, place_here, place_there}
use Rattle.recording.specs.OrderLaws.{place_in, times_in, place_one, place_within, place_append_left}
use Rattle.recording.specs.OrderLaws.{place_append_right, before_in_left}
use Rattle.recording.specs.PlaceLaws.{times_at, place_at}
use Rattle.values.specs.Refused.{events_alone}
use Rattle.values.specs.Values.{Values}
use Rattle.completion.specs.Performed.{is_address, last_of, until, writers, writes_to}

-- What stands before an event

-- as before, where the event is not the last
pub until_left : (xs : List ℕ) (x e : ℕ) → 0 < times xs e → until (xs ++ x ∷ []) e ≡ until xs e
until_left xs x e there =
    ap (λ (k : ℕ). take k (xs ++ x ∷ [])) (place_append_left xs (x ∷ []) e there)
    ∙ take-append-le (place xs e) xs (x ∷ []) (place_within xs e)

-- all, where it is
pub until_last : (xs : List ℕ) (x : ℕ) → times xs x ≡ 0 → until (xs ++ x ∷ []) x ≡ xs
until_last xs x new =
    let at : place (xs ++ x ∷ []) x ≡ length xs =
    omega (arith, place_append_right xs (x ∷ []) x new, place_here [] x x refl) in
    ap (λ (k : ℕ). take k (xs ++ x ∷ [])) at
    ∙ (take-append-le (length xs) xs (x ∷ []) (omega arith) ∙ take_all (length xs) xs (omega arith))

-- what is among the first has its place there
in_front : (xs : List ℕ) (k u : ℕ) → 0 < times (take k xs) u → place xs u < k
in_front xs zero u there = absurd (omega (arith, there, times_nil u))
in_front [] (suc k) u there = absurd (omega (arith, there, times_nil u))
in_front (x ∷ xs) (suc k) u there = elim (cases_eq x u) [
  | inl one ↦ omega (arith, place_here xs x u one)
  | inr other ↦ omega (
    arith,
    place_there xs x u other,
    in_front xs k u (omega (arith, there, times_there (take k xs) x u other)),
  )
]

-- and the other way round
pub front_in : (xs : List ℕ) (k u : ℕ) → place xs u < k → k ≤ length xs → 0 < times (take k xs) u
front_in xs zero u low le = absurd (omega (arith, low))
front_in [] (suc k) u low le = absurd (omega (arith, le))
front_in (x ∷ xs) (suc k) u low le = elim (cases_eq x u) [
  | inl one ↦ omega (arith, times_here (take k xs) x u one)
  | inr other ↦ omega (
    arith,
    times_there (take k xs) x u other,
    front_in xs k u (omega (arith, low, place_there xs x u other)) (omega (arith, le)),
  )
]

pub until_before : (m : List ℕ) (e u : ℕ) → 0 < times m e → 0 < times (until m e) u → Before m u e
until_before m e u there first = (in_front m (place m e) u first, place_in m e there)

pub before_until : (m : List ℕ) (e u : ℕ) → Before m u e → 0 < times (until m e) u
before_until m e u before = front_in m (place m e) u before.0 (place_within m e)

-- Some of a list

-- what passes stands as often
pub times_filter : (p : ℕ → Bool) (l : List ℕ) (e : ℕ) → p e ≡ true → times (filter p l) e ≡ times l e
times_filter p [] e test = refl
times_filter p (x ∷ l) e test = go (p x) refl (times_filter p l e test)
  where
    go : (b : Bool) → p x ≡ b → times (filter p l) e ≡ times l e
        → times (cond b (x ∷ filter p l) (filter p l)) e ≡ times (x ∷ l) e
    go true is rest = elim (cases_eq x e) [
      | inl one ↦ omega (arith, rest, times_here (filter p l) x e one, times_here l x e one)
      | inr other ↦ omega (arith, rest, times_there (filter p l) x e other, times_there l x e other)
    ]
    go false is rest = elim (cases_eq x e) [
      | inl one ↦ let clash : true ≡ false = sym test ∙ (ap p (sym one) ∙ is) in absurd cc
      | inr other ↦ omega (arith, rest, times_there l x e other)
    ]

-- what does not, never
pub times_filter_no : (p : ℕ → Bool) (l : List ℕ) (e : ℕ) → p e ≡ false → times (filter p l) e ≡ 0
times_filter_no p [] e test = times_nil e
times_filter_no p (x ∷ l) e test = go (p x) refl (times_filter_no p l e test)
  where
    go : (b : Bool) → p x ≡ b → times (filter p l) e ≡ 0 → times (cond b (x ∷ filter p l) (filter p l)) e ≡ 0
    go true is rest = elim (cases_eq x e) [
      | inl one ↦ let clash : true ≡ false = sym is ∙ (ap p one ∙ test) in absurd cc
      | inr other ↦ omega (arith, rest, times_there (filter p l) x e other)
    ]
    go false is rest = rest

-- they stand in the order of the list
pub before_filter : (p : ℕ → Bool) (l : List ℕ) (e f : ℕ) → p e ≡ true → p f ≡ true → Before (filter p l) e f
    → Before l e f
before_filter p [] e f pe pf before = before
before_filter p (x ∷ l) e f pe pf before = go (p x) refl before (before_filter p l e f pe pf)
  where
    later : x ≢ e → x ≢ f → Before l e f → Before (x ∷ l) e f
    later a b rest =
        (omega (arith, rest.0, place_there l x e a, place_there l x f b), omega (arith, rest.1, place_there l x f b))

    go : (b : Bool) → p x ≡ b → Before (cond b (x ∷ filter p l) (filter p l)) e f
        → (Before (filter p l) e f → Before l e f) → Before (x ∷ l) e f
    go false is now rest = later
        (λ one. let clash : true ≡ false = sym pe ∙ (ap p (sym one) ∙ is) in absurd cc)
        (λ one. let clash : true ≡ false = sym pf ∙ (ap p (sym one) ∙ is) in absurd cc) (rest now)
    go true is now rest = elim (cases_eq x f) [
      | inl one ↦ absurd (omega (arith, now.0, place_here (filter p l) x f one))
      | inr apart ↦ elim (cases_eq x e) [
        | inl one ↦ (
          omega (arith, place_here l x e one, place_there l x f apart),
          omega (
            arith,
            place_there l x f apart,
            place_in l f (omega (
              arith,
              times_filter p l f pf,
              times_in (filter p l) f (omega (arith, now.1, place_there (filter p l) x f apart)),
            )),
          ),
        )
        | inr other ↦ later other apart (rest (
          omega (arith, now.0, place_there (filter p l) x e other, place_there (filter p l) x f apart),
          omega (arith, now.1, place_there (filter p l) x f apart),
        ))
      ]
    ]

-- The last of a list

pub last_push : (xs : List ℕ) (e : ℕ) → last_of (xs ++ e ∷ []) ≡ Some e
last_push xs e =
    let n : ℕ = length (xs ++ e ∷ []) - 1 in
    let at : length xs ≡ n = omega (arith, length-append xs (e ∷ [])) in
    slice_get-get_or (xs ++ e ∷ []) n e (omega (arith, length-append xs (e ∷ [])))
    ∙ ap (λ (z : ℕ). Some z) (get_or_push xs e e n at)

-- where there is none, there is nothing
pub last_none : (xs : List ℕ) (u : ℕ) → last_of xs ≡ None → times xs u ≡ 0
last_none xs u none = elim (cases_lt 0 (length xs)) [
  | inl some ↦ absurd (let clash : None ≡ Some (get_or xs (length xs - 1) 0) =
      sym none ∙ slice_get-get_or xs (length xs - 1) 0 (omega (arith, some)) in cc)
  | inr empty ↦ elim (cases_lt 0 (times xs u)) [
    | inl there ↦ absurd (omega (arith, empty, place_in xs u there))
    | inr never ↦ omega (arith, never)
  ]
]

-- it is there, and all others stand before it
pub last_some : (xs : List ℕ) (w : ℕ) → ((e : ℕ) → times xs e ≤ 1) → last_of xs ≡ Some w
    → (0 < times xs w) × ((u : ℕ) → 0 < times xs u → (u ≡ w) ⊎ Before xs u w)
last_some xs w once is = elim (cases_lt 0 (length xs)) [
  | inr empty ↦ absurd (let clash : None ≡ Some w =
      sym (slice_get_past xs (length xs - 1) (omega (arith, empty))) ∙ is in cc)
  | inl some ↦
      let n : ℕ = length xs - 1 in
      let here : get_or xs n 0 ≡ w =
      same_Some (get_or xs n 0) w (sym (slice_get-get_or xs n 0 (omega (arith, some))) ∙ is) in
      let at : place xs w ≡ n =
      sym (ap (place xs) here) ∙ place_at xs n (omega (arith, some)) (once (get_or xs n 0)) in
      let there : 0 < times xs w =
      subst (λ (k : ℕ). 0 < times xs k) here (times_at xs n (omega (arith, some))) in (
        there,
        λ u inside. elim (cases_eq (place xs u) (place xs w)) [
          | inl one ↦ inl (place_one xs u w one (place_in xs u inside))
          | inr other ↦ inr (
            omega (arith, at, other, place_in xs u inside),
            omega (arith, at, some),
          )
        ],
      )
]

-- Writes

-- what the test says
pub writes_yes : (v : Values) (a e : ℕ) → Writes (events_alone v) e a → writes_to v a e ≡ true
writes_yes v a e writes = ap (λ (o : Option ℕ). is_address o a) writes ∙ eq-eqb a a refl

pub yes_writes : (v : Values) (a e : ℕ) → writes_to v a e ≡ true → Writes (events_alone v) e a
yes_writes v a e test = go (written_address (event_at (events_alone v) e)) test
  where
    go : (o : Option ℕ) → is_address o a ≡ true → o ≡ Some a
    go None h = absurd cc
    go (Some b) h = ap (λ (k : ℕ). Some k) (eqb-true b a h)

pub writes_no : (v : Values) (a e : ℕ) → (Writes (events_alone v) e a → 1 ≤ 0) → writes_to v a e ≡ false
writes_no v a e never = go (writes_to v a e) refl
  where
    go : (b : Bool) → writes_to v a e ≡ b → writes_to v a e ≡ false
    go false is = is
    go true is = absurd (omega (arith, never (yes_writes v a e is)))

-- one more that writes the address
pub writers_more : (v : Values) (a e : ℕ) (order : List ℕ) → Writes (events_alone v) e a
    → writers v a (order ++ e ∷ []) ≡ writers v a order ++ e ∷ []
writers_more v a e order writes =
    filter-append (writes_to v a) order (e ∷ [])
    ∙ ap (λ (b : Bool). writers v a order ++ cond b (e ∷ []) []) (writes_yes v a e writes)

-- or does not
pub writers_same : (v : Values) (a e : ℕ) (order : List ℕ) → (Writes (events_alone v) e a → 1 ≤ 0)
    → writers v a (order ++ e ∷ []) ≡ writers v a order
writers_same v a e order never =
    filter-append (writes_to v a) order (e ∷ [])
    ∙ (ap (λ (b : Bool). writers v a order ++ cond b (e ∷ []) []) (writes_no v a e never)
    ∙ append-nil (writers v a order))

-- those that write it are there
pub writer_there : (v : Values) (a e : ℕ) (order : List ℕ) → Writes (events_alone v) e a
    → times (writers v a order) e ≡ times order e
writer_there v a e order writes = times_filter (writes_to v a) order e (writes_yes v a e writes)

-- and no others
pub there_writer : (v : Values) (a e : ℕ) (order : List ℕ) → 0 < times (writers v a order) e → Writes (events_alone v) e a
there_writer v a e order there = go (writes_to v a e) refl
  where
    go : (b : Bool) → writes_to v a e ≡ b → Writes (events_alone v) e a
    go true is = yes_writes v a e is
    go false is = absurd (omega (arith, there, times_filter_no (writes_to v a) order e is))

-- each once
pub writers_once : (v : Values) (a : ℕ) (order : List ℕ) → ((e : ℕ) → times order e ≤ 1) → (e : ℕ)
    → times (writers v a order) e ≤ 1
writers_once v a order once e = go (writes_to v a e) refl
  where
    go : (b : Bool) → writes_to v a e ≡ b → times (writers v a order) e ≤ 1
    go true is = omega (arith, once e, times_filter (writes_to v a) order e is)
    go false is = omega (arith, times_filter_no (writes_to v a) order e is)

-- all of them, where all events are listed
pub writers_all : (v : Values) (a : ℕ) (order : List ℕ) → Enumerates (λ e. e < event_count (events_alone v)) order
    → Enumerates (λ e. Writes (events_alone v) e a) (writers v a order)
writers_all v a order all = record {
  once = λ e w. writer_there v a e order w ∙ all.once e (Writes-event (events_alone v) e a w);
  nothing_else = λ e there. there_writer v a e order there;
}

-- in the order of all
pub writers_before : (v : Values) (a e f : ℕ) (order : List ℕ) → Before (writers v a order) e f → Before order e f
writers_before v a e f order before =
    let there : 0 < times (writers v a order) f = times_in (writers v a order) f before.1 in
    let first : 0 < times (writers v a order) e = times_in (writers v a order) e (omega (arith, before)) in
    before_filter (writes_to v a) order e f (writes_yes v a e (there_writer v a e order first))
    (writes_yes v a f (there_writer v a f order there)) before

-- A front of a list

-- what stands there stands no more often than in the list
pub front_times : (l : List ℕ) (k e : ℕ) → times (take k l) e ≤ times l e
front_times l k e = omega (
  arith,
  times_append (take k l) (drop k l) e,
  ap (λ (z : List ℕ). times z e) (take-append-drop k l),
)

-- and in its order
pub front_before : (l : List ℕ) (k e f : ℕ) → Before (take k l) e f → Before l e f
front_before l k e f before =
    subst (λ (z : List ℕ). Before z e f) (take-append-drop k l) (before_in_left (take k l) (drop k l) e f before)

-- The writes among the first of a list, with one event more

module _ (v : Values) (a i d : ℕ) (order : List ℕ) (inside : i < length order) where
  more_is : take (i + 1) order ≡ take i order ++ get_or order i d ∷ []
  more_is = take_more order i d inside

  pub writers_on : writes_to v a (get_or order i d) ≡ true
      → writers v a (take (i + 1) order) ≡ writers v a (take i order) ++ get_or order i d ∷ []
  writers_on test = ap (writers v a) more_is
      ∙ writers_more v a (get_or order i d) (take i order) (yes_writes v a (get_or order i d) test)

  pub writers_by : writes_to v a (get_or order i d) ≡ false
      → writers v a (take (i + 1) order) ≡ writers v a (take i order)
  writers_by test = ap (writers v a) more_is
      ∙ writers_same v a (get_or order i d) (take i order) (λ writes. absurd (
      let clash : false ≡ true = sym test ∙ writes_yes v a (get_or order i d) writes in cc))

-- The numbers below n

-- none
pub numbers_none : Enumerates (λ e. e < 0) []
numbers_none = record {
  once = λ e low. absurd (omega (arith, low));
  nothing_else = λ e there. absurd (omega (arith, there, times_nil e));
}

-- one more
pub numbers_more : (n : ℕ) (xs : List ℕ) → Enumerates (λ e. e < n) xs → Enumerates (λ e. e < n + 1) (xs ++ n ∷ [])
numbers_more n xs h = record {
  once = λ e less. elim (cases_lt e n) [
    | inl low ↦ omega (
      arith,
      h.once e low,
      times_append xs (n ∷ []) e,
      times_there [] n e (λ same. absurd (omega (arith, low, same))),
      times_nil e,
    )
    | inr last ↦
        let at : n ≡ e = omega (arith, less, last) in
        omega (arith, not_yet e last, times_append xs (n ∷ []) e, times_here [] n e at, times_nil e)
  ];
  nothing_else = λ e there. elim (cases_lt e n) [
    | inl low ↦ omega (arith, low)
    | inr past ↦ elim (cases_eq n e) [
      | inl same ↦ omega (arith, same)
      | inr other ↦ absurd (omega (
        arith,
        there,
        not_yet e past,
        times_append xs (n ∷ []) e,
        times_there [] n e other,
        times_nil e,
      ))
    ]
  ];
}
  where
    not_yet : (e : ℕ) → n ≤ e → times xs e ≡ 0
    not_yet e past = elim (cases_lt 0 (times xs e)) [
      | inl there ↦ absurd (omega (arith, past, h.nothing_else e there))
      | inr none ↦ omega (arith, none)
    ]
