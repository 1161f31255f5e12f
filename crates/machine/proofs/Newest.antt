-- The write list of an address is what of the performed events writes it, so memory has the newest of them.
use Rattle.std.proofs.Common.{◌≡◌, ◌≢◌, ◌<◌, ◌≤◌, ◌+◌, ◌⊎◌, inl, inr, ℕ, Bool, true, false, Option, Some}
use Rattle.std.proofs.Common.{None, List, [], ◌∷◌, ◌++◌, arith, refl, sym, ap, subst, ◌∙◌}
use Rattle.std.specs.List.{filter}
use Rattle.std.proofs.lemmas.Bool.{cases_eq, cases_Bool}
use Rattle.recording.specs.Order.{place, times, Before}
use Rattle.recording.specs.OrderLaws.{place_in, times_in, place_here, place_there, place_nil, times_here}
use Rattle.recording.specs.OrderLaws.{times_there, times_nil, times_append, cases_times, before_in_left}
use Rattle.machine.proofs.Seen.{Static, IsNewest}

-- the last of a list
pub last_of : List ℕ → Option ℕ
last_of [] = None
last_of (x ∷ []) = Some x
last_of (x ∷ (y ∷ ys)) = last_of (y ∷ ys)

-- the empty list has no last
pub last_nil : last_of [] ≡ None
unfolding last_of
last_nil = refl

-- a single number is the last
pub last_one : (x : ℕ) → last_of (x ∷ []) ≡ Some x
unfolding last_of
last_one x = refl

-- the first of more is not the last
pub last_two : (x : ℕ) (xs : List ℕ) (e : ℕ) → last_of (x ∷ (xs ++ e ∷ [])) ≡ last_of (xs ++ e ∷ [])
unfolding last_of
last_two x [] e = refl
last_two x (y ∷ ys) e = refl

-- what passes is kept
pub filter_yes : (q : ℕ → Bool) (x : ℕ) (xs : List ℕ) → q x ≡ true → filter q (x ∷ xs) ≡ x ∷ filter q xs
filter_yes q x xs h = rw h refl

-- what fails is left out
pub filter_no : (q : ℕ → Bool) (x : ℕ) (xs : List ℕ) → q x ≡ false → filter q (x ∷ xs) ≡ filter q xs
filter_no q x xs h = rw h refl

-- what passes stands as often as before
pub times_filter : (q : ℕ → Bool) (m : List ℕ) (e : ℕ) → q e ≡ true → times (filter q m) e ≡ times m e
times_filter q [] e h = refl
times_filter q (x ∷ xs) e h = elim (cases_Bool (q x)) [
  | inl holds ↦ rw (filter_yes q x xs holds) (elim (cases_eq x e) [
    | inl same ↦ omega (
      arith,
      times_here (filter q xs) x e same,
      times_here xs x e same,
      times_filter q xs e h,
    )
    | inr other ↦ omega (
      arith,
      times_there (filter q xs) x e other,
      times_there xs x e other,
      times_filter q xs e h,
    )
  ])
  | inr fails ↦ rw (filter_no q x xs fails)
      (omega (
        arith,
        times_filter q xs e h,
        times_there xs x e (λ s. let clash : true ≡ false = sym h ∙ (ap q (sym s) ∙ fails) in cc),
      ))
]

-- what fails stands nowhere
pub times_filter_no : (q : ℕ → Bool) (m : List ℕ) (e : ℕ) → q e ≡ false → times (filter q m) e ≡ 0
times_filter_no q [] e h = times_nil e
times_filter_no q (x ∷ xs) e h = elim (cases_Bool (q x)) [
  | inl holds ↦ rw (filter_yes q x xs holds)
      (omega (
        arith,
        times_there (filter q xs) x e (λ s. let clash : true ≡ false =
            sym holds ∙ (ap q s ∙ h) in cc),
        times_filter_no q xs e h,
      ))
  | inr fails ↦ rw (filter_no q x xs fails) (times_filter_no q xs e h)
]

-- so what is kept passes
pub times_passes : (q : ℕ → Bool) (m : List ℕ) (e : ℕ) → 0 < times (filter q m) e → q e ≡ true
times_passes q m e there = elim (cases_Bool (q e)) [
  | inl is ↦ is
  | inr fails ↦ absurd (omega (arith, there, times_filter_no q m e fails))
]

-- two tests that agree on what stands in a list keep the same of it
pub filter_same : (q r : ℕ → Bool) (m : List ℕ) → ((e : ℕ) → 0 < times m e → q e ≡ r e)
    → filter q m ≡ filter r m
filter_same q r [] h = refl
filter_same q r (x ∷ xs) h =
    let rest : filter q xs ≡ filter r xs =
    filter_same q r xs (λ e there. h e (omega (arith, there, times_append (x ∷ []) xs e))) in
    let here : q x ≡ r x = h x (omega (arith, times_here xs x x refl)) in
    elim (cases_Bool (r x)) [
      | inl holds ↦ filter_yes q x xs (here ∙ holds)
          ∙ (ap (λ (l : List ℕ). x ∷ l) rest ∙ sym (filter_yes r x xs holds))
      | inr fails ↦ filter_no q x xs (here ∙ fails) ∙ (rest ∙ sym (filter_no r x xs fails))
    ]

-- what stands before another among some stands before it among all
pub before_filter : (q : ℕ → Bool) (m : List ℕ) (e f : ℕ) → q e ≡ true → q f ≡ true → Before (filter q m) e f
    → Before m e f
before_filter q [] e f qe qf h = absurd (omega (arith, h, place_nil f))
before_filter q (x ∷ xs) e f qe qf h = elim (cases_Bool (q x)) [
  | inl holds ↦
      let kept : Before (x ∷ filter q xs) e f =
      subst (λ (l : List ℕ). Before l e f) (filter_yes q x xs holds) h in
      elim (cases_eq x f) [
        | inl f_here ↦ absurd (omega (arith, kept, place_here (filter q xs) x f f_here))
        | inr f_there ↦
            let f_in : 0 < times xs f =
            omega (
              arith,
              times_filter q xs f qf,
              times_in (filter q xs) f (omega (arith, kept, place_there (filter q xs) x f f_there)),
            ) in
            elim (cases_eq x e) [
              | inl e_here ↦ (
                omega (arith, place_here xs x e e_here, place_there xs x f f_there),
                omega (arith, place_there xs x f f_there, place_in xs f f_in),
              )
              | inr e_there ↦
                  let rest : Before xs e f =
                  before_filter q xs e f qe qf (
                    omega (
                      arith,
                      kept,
                      place_there (filter q xs) x e e_there,
                      place_there (filter q xs) x f f_there,
                    ),
                    omega (arith, kept, place_there (filter q xs) x f f_there),
                  ) in (
                    omega (arith, rest, place_there xs x e e_there, place_there xs x f f_there),
                    omega (arith, rest, place_there xs x f f_there),
                  )
            ]
      ]
  | inr fails ↦
      let rest : Before xs e f =
      before_filter q xs e f qe qf (subst (λ (l : List ℕ). Before l e f) (filter_no q x xs fails) h) in
      let e_there : place (x ∷ xs) e ≡ place xs e + 1 =
      place_there xs x e (λ s. let clash : true ≡ false = sym qe ∙ (ap q (sym s) ∙ fails) in cc) in
      let f_there : place (x ∷ xs) f ≡ place xs f + 1 =
      place_there xs x f (λ s. let clash : true ≡ false = sym qf ∙ (ap q (sym s) ∙ fails) in cc) in
      (omega (arith, rest, e_there, f_there), omega (arith, rest, f_there))
]

-- what stands before s among some, or is s, does so with x before them
pub before_more : (x : ℕ) (xs : List ℕ) (s w : ℕ) → x ≢ s → 0 < times xs s
    → (0 < times xs w → (w ≡ s) ⊎ Before xs w s) → 0 < times (x ∷ xs) w → (w ≡ s) ⊎ Before (x ∷ xs) w s
before_more x xs s w apart s_in rest there = elim (cases_eq x w) [
  | inl here ↦ inr (
    omega (arith, place_here xs x w here, place_there xs x s apart),
    omega (arith, place_there xs x s apart, place_in xs s s_in),
  )
  | inr after ↦ elim (rest (omega (arith, there, times_there xs x w after))) [
    | inl is_s ↦ inl is_s
    | inr before ↦ inr (
      omega (arith, before, place_there xs x w after, place_there xs x s apart),
      omega (arith, before, place_there xs x s apart),
    )
  ]
]

-- in a list of distinct numbers the last stands after all others
pub last_after : (l : List ℕ) (s : ℕ) → ((e : ℕ) → times l e ≤ 1) → last_of l ≡ Some s
    → (0 < times l s) × ((w : ℕ) → 0 < times l w → (w ≡ s) ⊎ Before l w s)
unfolding last_of
last_after [] s once is = absurd cc
last_after (x ∷ []) s once is =
    let one : x ≡ s = cc in (
      omega (arith, times_here [] x s one),
      λ w there. elim (cases_eq x w) [
        | inl same ↦ inl (sym same ∙ one)
        | inr other ↦ absurd (omega (arith, there, times_there [] x w other, times_nil w))
      ],
    )
last_after (x ∷ (y ∷ ys)) s once is =
    let rest : (0 < times (y ∷ ys) s) × ((w : ℕ) → 0 < times (y ∷ ys) w → (w ≡ s) ⊎ Before (y ∷ ys) w s) =
    last_after (y ∷ ys) s (λ e. omega (arith, once e, times_append (x ∷ []) (y ∷ ys) e)) is in
    let apart : x ≢ s = λ same. omega (arith, once s, times_here (y ∷ ys) x s same, rest.0) in (
      omega (arith, rest.0, times_there (y ∷ ys) x s apart),
      λ w there. before_more x (y ∷ ys) s w apart rest.0 (rest.1 w) there,
    )

-- a list without a last has nothing
last_none : (l : List ℕ) → last_of l ≡ None → (w : ℕ) → times l w ≡ 0
unfolding last_of
last_none [] is w = times_nil w
last_none (x ∷ []) is w = absurd cc
last_none (x ∷ (y ∷ ys)) is w = elim (cases_times (y ∷ ys) y) [
  | inl none ↦ absurd (omega (arith, none, times_here ys y y refl))
  | inr some ↦ absurd (omega (arith, some, last_none (y ∷ ys) is y))
]

-- a core whose buffer has no write to the address sees the last of its write list
pub newest_in_memory : (p : Static) (q : ℕ → Bool) (m buffer : List ℕ) (a : ℕ)
    → ((e : ℕ) → q e ≡ true → p.writes e ≡ Some a) → ((e : ℕ) → p.writes e ≡ Some a → q e ≡ true)
    → ((e : ℕ) → times m e ≤ 1) → ((w : ℕ) → 0 < times buffer w → ¬ (p.writes w ≡ Some a))
    → IsNewest p (m ++ buffer) a (last_of (filter q m))
newest_in_memory p q m buffer a holds back once none = go (last_of (filter q m)) refl
  where
    in_list : (w : ℕ) → 0 < times (m ++ buffer) w → p.writes w ≡ Some a → 0 < times (filter q m) w
    in_list w there writes = elim (cases_times buffer w) [
      | inl not_waiting ↦ omega (
        arith,
        there,
        times_append m buffer w,
        not_waiting,
        times_filter q m w (back w writes),
      )
      | inr waiting ↦ absurd (none w waiting writes)
    ]

    distinct : (e : ℕ) → times (filter q m) e ≤ 1
    distinct e = elim (cases_Bool (q e)) [
      | inl is ↦ omega (arith, once e, times_filter q m e is)
      | inr fails ↦ omega (arith, times_filter_no q m e fails)
    ]

    go : (o : Option ℕ) → last_of (filter q m) ≡ o → IsNewest p (m ++ buffer) a o
    go None is = λ w there writes. omega (arith, in_list w there writes, last_none (filter q m) is w)
    go (Some s) is =
        let last : (0 < times (filter q m) s)
        × ((w : ℕ) → 0 < times (filter q m) w → (w ≡ s) ⊎ Before (filter q m) w s) =
        last_after (filter q m) s distinct is in
        let qs : q s ≡ true = times_passes q m s last.0 in (
          omega (arith, last.0, times_filter q m s qs, times_append m buffer s),
          holds s qs,
          λ w there writes. elim (last.1 w (in_list w there writes)) [
            | inl one ↦ inl one
            | inr before ↦ inr (before_in_left m buffer w s (before_filter q m w s (back w writes) qs before))
          ],
        )
