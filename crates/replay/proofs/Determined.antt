-- A well-formed execution is determined by its program and a TSO order of it.
use Rattle.std.proofs.Common.{◌≡◌, ◌≢◌, ◌<◌, ◌≤◌, ◌+◌, ◌⊎◌, inl, inr, ℕ, zero, suc, ◌&&◌, Option, Some, None, List, []}
use Rattle.std.proofs.Common.{◌∷◌, map, take, length, get_or, arith, refl, sym, ap, subst, ◌∙◌, ext_get_or}
use Rattle.std.specs.List.{sum}
use Rattle.std.proofs.lemmas.List.{length-map}
use Rattle.std.proofs.lemmas.Bool.{cases_eq, cases_Bool, and_parts}
use Rattle.std.proofs.Math.ListN as lists
use Rattle.recording.specs.declared.event.Event.{Event}
use Rattle.recording.specs.declared.event.Event.TheVariants.{F}
use Rattle.recording.specs.Event.{read_address, written_address, source, value_read, value_written}
use Rattle.recording.specs.Event.{is_plain_store, is_plain_load}
use Rattle.recording.specs.Execution.{Execution, placed_from, event_at, write_list, Reads, Writes, source_of}
use Rattle.recording.specs.Execution.{ProgramOrder}
use Rattle.recording.specs.Order.{place, times, Before, Enumerates}
use Rattle.recording.specs.Tso.{Gives, IsWellFormed, Visible, IsLastVisible, IsTsoOrder}
use Rattle.recording.specs.OrderLaws.{times_here, times_there, times_nil, times_in, times_append, cases_times}
use Rattle.recording.specs.OrderLaws.{left_before_right, before_in_right}
use Rattle.program_events.specs.ProgramOf.{event_of}
use Rattle.program_events.specs.NamedProgram.{op_of}
use Rattle.recording.specs.PlacedLaws.{placed_at}
use Rattle.program_events.proofs.MadeAgain.{made_again, made_unread, made_reads, made_given, store_unread}
use Rattle.replay.proofs.Made.{IsMade}

-- Lists that one order sorts

-- two lists of the same distinct numbers, both sorted as m, are one
pub sorted_one : (m u v : List ℕ) → ((e : ℕ) → times u e ≡ times v e) → ((e : ℕ) → times u e ≤ 1)
    → ((e f : ℕ) → Before u e f → Before m e f) → ((e f : ℕ) → Before v e f → Before m e f) → u ≡ v
sorted_one m [] [] same once left right = refl
sorted_one m [] (y ∷ ys) same once left right =
    absurd (omega (arith, same y, times_nil y, times_here ys y y refl))
sorted_one m (x ∷ xs) [] same once left right =
    absurd (omega (arith, same x, times_nil x, times_here xs x x refl))
sorted_one m (x ∷ xs) (y ∷ ys) same once left right = elim (cases_eq x y) [
  | inl one ↦
      let none : times xs x ≡ 0 = omega (arith, once x, times_here xs x x refl) in
      let none_right : times ys x ≡ 0 =
      omega (arith, none, same x, times_here xs x x refl, times_here ys y x (sym one)) in
      let apart : (e : ℕ) (l : List ℕ) → times l x ≡ 0 → 0 < times l e → x ≢ e =
      λ e l empty there is. omega (arith, there, empty, ap (times l) is) in
      let single : (e : ℕ) → x ≢ e → times (x ∷ []) e ≡ 0 =
      λ e other. omega (arith, times_there [] x e other, times_nil e) in
      ap (λ (h : ℕ). h ∷ xs) one ∙ ap (λ (l : List ℕ). y ∷ l) (sorted_one m xs ys
      (λ e. omega (
        arith,
        same e,
        times_append (x ∷ []) xs e,
        times_append (y ∷ []) ys e,
        ap (λ (h : ℕ). times (h ∷ []) e) one,
      ))
      (λ e. omega (arith, once e, times_append (x ∷ []) xs e))
      (λ e f b. left e f (before_in_right (x ∷ []) xs e f
      (single e (apart e xs none (times_in xs e (omega (arith, b)))))
      (single f (apart f xs none (times_in xs f b.1))) b))
      (λ e f b. right e f (subst (λ (h : ℕ). Before (h ∷ ys) e f) one (before_in_right (x ∷ []) ys e f
      (single e (apart e ys none_right (times_in ys e (omega (arith, b)))))
      (single f (apart f ys none_right (times_in ys f b.1))) b))))
  | inr other ↦
      let y_there : 0 < times xs y =
      omega (arith, same y, times_there xs x y other, times_here ys y y refl) in
      let x_there : 0 < times ys x =
      omega (arith, same x, times_there ys y x (λ is. other (sym is)), times_here xs x x refl) in
      let first : Before m x y =
      left x y (left_before_right (x ∷ []) xs x y (omega (arith, times_here [] x x refl))
      (omega (arith, times_there [] x y other, times_nil y)) y_there) in
      let second : Before m y x =
      right y x (left_before_right (y ∷ []) ys y x (omega (arith, times_here [] y y refl))
      (omega (arith, times_there [] y x (λ is. other (sym is)), times_nil x)) x_there) in
      absurd (omega (arith, first, second))
]

-- Events

-- at most one source is the last visible write
last_one : (x : Execution) (m : List ℕ) (e a : ℕ) (o q : Option ℕ) → IsLastVisible x m e a o
    → IsLastVisible x m e a q → o ≡ q
last_one x m e a None None h k = refl
last_one x m e a None (Some t) h k = absurd (h t k.0)
last_one x m e a (Some s) None h k = absurd (k s h.0)
last_one x m e a (Some s) (Some t) h k = elim (h.1 t k.0) [
  | inl is ↦ ap Some (sym is)
  | inr before ↦ elim (k.1 s h.0) [ inl is ↦ ap Some is | inr after ↦ absurd (omega (arith, before, after)) ]
]

module _ (x y : Execution) (m : List ℕ) (made : IsMade x y) (well : IsWellFormed x)
    (well_other : IsWellFormed y) (tso : IsTsoOrder x m) (tso_other : IsTsoOrder y m) where
  -- one source gives one value, where its event is the same
  gives_one : (a : ℕ) (o : Option ℕ) (v w : ℕ) → ((s : ℕ) → o ≡ Some s → event_at y s ≡ event_at x s)
      → Gives x a o v → Gives y a o w → w ≡ v
  gives_one a None v w same h k = k ∙ (ap (λ (l : List ℕ). get_or l a 0) made.initial ∙ sym h)
  gives_one a (Some s) v w same h k = sym k.1 ∙ (ap value_written (same s refl) ∙ h.1)

  -- program order is one
  own_one : (e w : ℕ) → ProgramOrder y w e → ProgramOrder x w e
  own_one e w own = (own.0, omega (arith, own.1, made.count), sym (made.core w) ∙ (own.2 ∙ made.core e))

  -- an event is the same where those that it can see are
  module _ (e : ℕ) (same : (w : ℕ) → (Before m w e ⊎ ProgramOrder x w e) → event_at y w ≡ event_at x w) where
    -- what is visible in one is visible in the other
    visible_one : (a w : ℕ) → Visible y m e a w → Visible x m e a w
    visible_one a w h =
        let near : Before m w e ⊎ ProgramOrder x w e = elim h.2 [
          | inl before ↦ inl before
          | inr own ↦ inr (own_one e w own)
        ] in
        (ap written_address (sym (same w near)) ∙ h.0, h.1, near)

    -- and the other way round
    visible_other : (a w : ℕ) → Visible x m e a w → Visible y m e a w
    visible_other a w h = (
      ap written_address (same w h.2) ∙ h.0,
      h.1,
      elim h.2 [
        | inl before ↦ inl before
        | inr own ↦ inr (own.0, omega (arith, own.1, made.count), made.core w ∙ (own.2 ∙ sym (made.core e)))
      ],
    )

    -- so the last visible write is one
    last_moved : (a : ℕ) (o : Option ℕ) → IsLastVisible y m e a o → IsLastVisible x m e a o
    last_moved a None h = λ w seen. h w (visible_other a w seen)
    last_moved a (Some s) h = (visible_one a s h.0, λ w seen. h.1 w (visible_other a w seen))

    -- and it is the same event
    last_same : (a : ℕ) (o : Option ℕ) (s : ℕ) → IsLastVisible x m e a o → o ≡ Some s
        → event_at y s ≡ event_at x s
    last_same a None s h is = absurd cc
    last_same a (Some t) s h is = let one : t ≡ s = cc in
        subst (λ (z : ℕ). event_at y z ≡ event_at x z) one (same t h.0.2)

    -- an event that reads does so from the same source
    read_same : (a : ℕ) → Reads x e a → event_at y e ≡ event_at x e
    read_same a reads =
        let d : ℕ × Option ℕ = (made.event e).0 in
        let is : event_at y e ≡ event_of (op_of (event_at x e)) d = (made.event e).1 in
        let there : Reads y e a = ap read_address is ∙ (made_reads (event_at x e) d ∙ reads) in
        let sources : source_of x e ≡ source_of y e =
        last_one x m e a (source_of x e) (source_of y e) (tso.values e a reads)
        (last_moved a (source_of y e) (tso_other.values e a there)) in
        let values : value_read (event_at y e) ≡ value_read (event_at x e) =
        gives_one a (source_of x e) (value_read (event_at x e)) (value_read (event_at y e))
        (λ s from. last_same a (source_of x e) s (tso.values e a reads) from) (well.sources e a reads)
        (rw sources (well_other.sources e a there)) in
        let gave = made_given (event_at x e) d a reads in
        let value : d.0 ≡ value_read (event_at x e) = sym gave.1 ∙ (ap value_read (sym is) ∙ values) in
        let origin : d.1 ≡ source (event_at x e) = sym gave.0 ∙ (ap source (sym is) ∙ sym sources) in
        is ∙ (ap (λ (v : ℕ). event_of (op_of (event_at x e)) (v, d.1)) value
        ∙ (ap (λ (o : Option ℕ). event_of (op_of (event_at x e)) (value_read (event_at x e), o)) origin
        ∙ made_again (event_at x e)))

    -- so is any event
    event_same : event_at y e ≡ event_at x e
    event_same = go (read_address (event_at x e)) refl
      where
        go : (o : Option ℕ) → read_address (event_at x e) ≡ o → event_at y e ≡ event_at x e
        go None is = (made.event e).1 ∙ made_unread (event_at x e) (made.event e).0 is
        go (Some a) is = read_same a is

  -- each event is the same, as those before it in the order are
  same_up_to : (n e : ℕ) → place m e < n → event_at y e ≡ event_at x e
  same_up_to zero e h = absurd (omega (arith, h))
  same_up_to (suc n) e h =
      event_same e (λ w near. before_same (λ v earlier. same_up_to n v (omega (arith, earlier, h))) w near)
    where
      before_same : ((v : ℕ) → place m v < place m e → event_at y v ≡ event_at x v) → (w : ℕ)
          → (Before m w e ⊎ ProgramOrder x w e) → event_at y w ≡ event_at x w
      before_same before w (inl b) = before w b.0
      before_same before w (inr own) =
          elim (cases_Bool (is_plain_store (event_at x w) && is_plain_load (event_at x e))) [
            | inl weak ↦ (made.event w).1 ∙ made_unread (event_at x w) (made.event w).0
                (store_unread (event_at x w) ((and_parts (is_plain_store (event_at x w))
                (is_plain_load (event_at x e)) weak).0))
            | inr strong ↦ before w (tso.kept w e (own, strong)).0
          ]

  -- so all events are
  same_events : (e : ℕ) → event_at y e ≡ event_at x e
  same_events e = same_up_to (place m e + 1) e (omega arith)

  -- each write list is the same
  list_same : (a : ℕ) → write_list y a ≡ write_list x a
  list_same a =
      let left : Enumerates (λ e. Writes y e a) (write_list y a) = well_other.write_lists a in
      let right : Enumerates (λ e. Writes x e a) (write_list x a) = well.write_lists a in
      sorted_one m (write_list y a) (write_list x a)
      (λ e. elim (cases_times (write_list y a) e) [
        | inl none ↦ elim (cases_times (write_list x a) e) [
          | inl also ↦ omega (arith, none, also)
          | inr there ↦ absurd (omega (
            arith,
            none,
            left.once e (ap written_address (same_events e) ∙ right.nothing_else e there),
          ))
        ]
        | inr there ↦ let wrote : Writes y e a = left.nothing_else e there in
            omega (arith, left.once e wrote, right.once e (ap written_address (sym (same_events e)) ∙ wrote))
      ])
      (λ e. elim (cases_times (write_list y a) e) [
        | inl none ↦ omega (arith, none)
        | inr there ↦ omega (arith, left.once e (left.nothing_else e there))
      ])
      (λ e f b. tso_other.write_order a e f b) (λ e f b. tso.write_order a e f b)

-- the length of a core
wide : (xs ys : List (List Event)) → map (λ es. length es) xs ≡ map (λ es. length es) ys → (c : ℕ)
    → length (get_or xs c []) ≡ length (get_or ys c [])
wide xs ys same c =
    sym (lists.get_or-map (λ es. length es) xs c [])
    ∙ (ap (λ (l : List ℕ). get_or l c 0) same ∙ lists.get_or-map (λ es. length es) ys c [])

-- cores of the same lengths whose events are the same are the same
cores_one : (xs ys : List (List Event)) → map (λ es. length es) xs ≡ map (λ es. length es) ys
    → ((e : ℕ) → (get_or (placed_from 0 xs) e (0, F)).1 ≡ (get_or (placed_from 0 ys) e (0, F)).1) → xs ≡ ys
cores_one xs ys same events =
    ext_get_or [] xs ys long (λ c inside. ext_get_or F (get_or xs c []) (get_or ys c []) (wide xs ys same c)
    (λ i here. at c i here))
  where
    long : length xs ≡ length ys
    long = sym (length-map xs (λ es. length es))
        ∙ (ap (λ (l : List ℕ). length l) same ∙ length-map ys (λ es. length es))

    at : (c i : ℕ) → i < length (get_or xs c []) → get_or (get_or xs c []) i F ≡ get_or (get_or ys c []) i F
    at c i here =
        sym (ap (λ (z : ℕ × Event). z.1) (placed_at 0 xs c i F here).0)
        ∙ (events (sum (take c (map (λ es. length es) xs)) + i)
        ∙ (ap (λ (l : List ℕ). (get_or (placed_from 0 ys) (sum (take c l) + i) (0, F)).1) same
        ∙ ap (λ (z : ℕ × Event). z.1) (placed_at 0 ys c i F (omega (arith, here, wide xs ys same c))).0))

-- what is known of events as the definition has them
events_are : (x y : Execution) → ((e : ℕ) → event_at y e ≡ event_at x e) → (e : ℕ)
    → (get_or (placed_from 0 y.cores) e (0, F)).1 ≡ (get_or (placed_from 0 x.cores) e (0, F)).1
unfolding event_at
events_are x y h e = h e

-- what is known of write lists as the definition has them
lists_are : (x y : Execution) → ((a : ℕ) → write_list y a ≡ write_list x a) → (a : ℕ)
    → get_or y.write_lists a [] ≡ get_or x.write_lists a []
unfolding write_list
lists_are x y h a = h a

-- two executions of one program with one TSO order are one
pub determined : (x y : Execution) (m : List ℕ) → IsMade x y → IsWellFormed x → IsWellFormed y
    → IsTsoOrder x m → IsTsoOrder y m → y ≡ x
determined x y m made well well_other tso tso_other =
    let cores : y.cores ≡ x.cores =
    cores_one y.cores x.cores made.lengths
    (events_are x y (same_events x y m made well well_other tso tso_other)) in
    let writes : y.write_lists ≡ x.write_lists =
    ext_get_or [] y.write_lists x.write_lists made.lists
    (λ a inside. lists_are x y (list_same x y m made well well_other tso tso_other) a) in
    ap (λ (c : List (List Event)). let z : Execution = record {
      cores = c;
      write_lists = y.write_lists;
      initial = y.initial;
    } in z) cores
    ∙ (ap (λ (l : List (List ℕ)). let z : Execution = record {
      cores = x.cores;
      write_lists = l;
      initial = y.initial;
    } in z) writes
    ∙ ap (λ (l : List ℕ). let z : Execution = record {
      cores = x.cores;
      write_lists = x.write_lists;
      initial = l;
    } in z) made.initial)
