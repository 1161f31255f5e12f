-- The addresses of a restriction are numbered by first use.
use Rattle.std.proofs.Common.{◌≡◌, ◌<◌, ◌≤◌, ◌-◌, ◌⊎◌, inl, inr, ℕ, zero, suc, Option, Some, None, List, [], ◌∷◌, ◌++◌}
use Rattle.std.proofs.Common.{length, get_or, arith, ap, sym, subst, refl, ◌∙◌, length-append}
use Rattle.std.proofs.lemmas.Bool.{cases_lt}
use Rattle.std.proofs.lemmas.List.{get_or_append_left, get_or-append_right, length-map}
use Rattle.recording.specs.EventLaws.{Reads-event, Writes-event}
use Rattle.recording.specs.Execution.{Execution, event_at, write_list, Reads, Writes}
use Rattle.recording.specs.Order.{place, times}
use Rattle.recording.specs.OrderLaws.{place_in, cases_times}
use Rattle.recording.specs.PlaceLaws.{place_at, times_at}
use Rattle.recording.specs.Tso.{IsWellFormed}
use Rattle.recording.specs.FirstUse.{IsNumberedByFirstUse}
use Rattle.reduction.specs.Laws.{IsPart}
use Rattle.recording.specs.Event.{address_of}
use Rattle.reduction.specs.Restriction.{AreClosed, with_address, with_addresses, addresses_of, kept_of}
use Rattle.reduction.proofs.Places.{number_at}
use Rattle.reduction.proofs.Restricted.{reads_down, writes_down, reads_up, writes_up}
use Rattle.reduction.proofs.Used.{reads_use, writes_use, use_reads, used_once, used_only, with_there, with_new}

-- what is put after a list stands there
last_pushed : (us : List ℕ) (a : ℕ) → get_or (us ++ a ∷ []) (length us) 0 ≡ a
last_pushed us a =
    let none : length us - length us ≡ 0 = omega arith in
    get_or-append_right us (a ∷ []) (length us) (length us) 0 refl (omega arith)
    ∙ ap (λ (i : ℕ). get_or (a ∷ []) i 0) none

-- ys begins with xs
abbrev Begins : List ℕ → List ℕ → Type 0
Begins xs ys = (length xs ≤ length ys) × ((b : ℕ) → b < length xs → get_or ys b 0 ≡ get_or xs b 0)

-- an address is put at the end
with_begins : (us : List ℕ) (o : Option ℕ) → Begins us (with_address us o)
with_begins us None = (omega arith, λ b h. refl)
with_begins us (Some a) = elim (cases_times us a) [
  | inl none ↦ (
    omega (arith, ap (λ (l : List ℕ). length l) (with_new us a none), length-append us (a ∷ [])),
    λ b h. ap (λ (l : List ℕ). get_or l b 0) (with_new us a none) ∙ get_or_append_left us (a ∷ []) 0 b h,
  )
  | inr some ↦ (
    omega (arith, ap (λ (l : List ℕ). length l) (with_there us a some)),
    λ b h. ap (λ (l : List ℕ). get_or l b 0) (with_there us a some),
  )
]

-- and so are all others
all_begin : (x : Execution) (us ks : List ℕ) → Begins us (with_addresses x us ks)
all_begin x us [] = (omega arith, λ b h. refl)
all_begin x us (k ∷ ks) =
    let first = with_begins us (address_of (event_at x k)) in
    let rest = all_begin x (with_address us (address_of (event_at x k))) ks in (
      omega (arith, first.0, rest.0),
      λ b h. rest.1 b (omega (arith, first.0)) ∙ first.1 b h,
    )

-- the address stands at most after those before
with_place : (us : List ℕ) (a : ℕ) → (p : ℕ) × (p ≤ length us) × (p < length (with_address us (Some a)))
    × (get_or (with_address us (Some a)) p 0 ≡ a)
with_place us a = elim (cases_times us a) [
  | inl none ↦ (
    length us,
    omega arith,
    omega (arith, ap (λ (l : List ℕ). length l) (with_new us a none), length-append us (a ∷ [])),
    ap (λ (l : List ℕ). get_or l (length us) 0) (with_new us a none)
        ∙ last_pushed us a,
  )
  | inr some ↦
      let within : place us a < length us = place_in us a some in (
        place us a,
        omega arith,
        omega (arith, within, ap (λ (l : List ℕ). length l) (with_there us a some)),
        ap (λ (l : List ℕ). get_or l (place us a) 0) (with_there us a some) ∙ number_at us a some,
      )
]

-- one that is new is that which is put at the end
with_last : (us : List ℕ) (o : Option ℕ) (b : ℕ) → b < length (with_address us o)
    → (b < length us) ⊎ (o ≡ Some (get_or (with_address us o) b 0))
with_last us None b h = inl h
with_last us (Some a) b h = elim (cases_times us a) [
  | inl none ↦ elim (cases_lt b (length us)) [
    | inl old ↦ inl old
    | inr new ↦
        let at : b ≡ length us = omega (
          arith,
          h,
          new,
          ap (λ (l : List ℕ). length l) (with_new us a none),
          length-append us (a ∷ []),
        ) in inr (ap (λ (c : ℕ). Some c) (sym (ap (λ (l : List ℕ). get_or l b 0) (with_new us a none)
        ∙ (ap (λ (i : ℕ). get_or (us ++ a ∷ []) i 0) at
        ∙ last_pushed us a))))
  ]
  | inr some ↦ inl (omega (arith, h, ap (λ (l : List ℕ). length l) (with_there us a some)))
]

-- before an address is used each smaller one was used, or stood in the list
first_use : (x : Execution) (us ks : List ℕ) → ((c : ℕ) → times (with_addresses x us ks) c ≤ 1) → (i a b : ℕ)
    → i < length ks → a < length (with_addresses x us ks)
    → address_of (event_at x (get_or ks i 0)) ≡ Some (get_or (with_addresses x us ks) a 0) → b < a
    → (b < length us) ⊎ ((j : ℕ) × (j < i)
    × (address_of (event_at x (get_or ks j 0)) ≡ Some (get_or (with_addresses x us ks) b 0)))
first_use x us [] once i a b h ha is less = absurd (omega arith)
first_use x us (k ∷ ks) once zero a b h ha is less =
    let o : Option ℕ = address_of (event_at x k) in
    let all : List ℕ = with_addresses x (with_address us o) ks in
    let at : (p : ℕ) × (p ≤ length us) × (p < length (with_address us o))
    × (get_or (with_address us o) p 0 ≡ get_or all a 0) =
    subst (λ (z : Option ℕ). (p : ℕ) × (p ≤ length us) × (p < length (with_address us z))
    × (get_or (with_address us z) p 0 ≡ get_or all a 0)) (sym is) (with_place us (get_or all a 0)) in
    let begins = all_begin x (with_address us o) ks in
    let there : get_or all at.0 0 ≡ get_or all a 0 = begins.1 at.0 at.2 ∙ at.3 in
    let within : at.0 < length all = omega (arith, at.2, begins.0) in
    let one : at.0 ≡ a = sym (place_at all at.0 within (once (get_or all at.0 0)))
    ∙ (ap (place all) there ∙ place_at all a ha (once (get_or all a 0))) in
    inl (omega (arith, less, one, at.1))
first_use x us (k ∷ ks) once (suc i) a b h ha is less =
    elim (first_use x (with_address us (address_of (event_at x k))) ks once i a b (omega arith) ha is less) [
      | inl new ↦ elim (with_last us (address_of (event_at x k)) b new) [
        | inl old ↦ inl old
        | inr here ↦ inr (
          0,
          omega arith,
          here ∙ ap (λ (c : ℕ). Some c)
              (sym ((all_begin x (with_address us (address_of (event_at x k))) ks).1 b new)),
        )
      ]
      | inr rest ↦ inr (suc rest.0, omega (arith, rest.1), rest.2)
    ]

-- of all addresses that events use
used_first : (x : Execution) (ks : List ℕ) (i a b : ℕ) → i < length ks → a < length (addresses_of x ks)
    → address_of (event_at x (get_or ks i 0)) ≡ Some (get_or (addresses_of x ks) a 0) → b < a
    → (j : ℕ) × (j < i) × (address_of (event_at x (get_or ks j 0)) ≡ Some (get_or (addresses_of x ks) b 0))
unfolding addresses_of
used_first x ks i a b h ha is less = elim (first_use x [] ks (once x ks) i a b h ha is less) [
  | inl none ↦ absurd (omega arith)
  | inr some ↦ some
]
  where
    once : (x : Execution) (ks : List ℕ) (c : ℕ) → times (addresses_of x ks) c ≤ 1
    once x ks c = used_once x ks c

module _ (x : Execution) (ks : List ℕ) (y : Execution) (wf : IsWellFormed x) (closed : AreClosed x ks)
    (r : IsPart x ks y) where
  -- an event that uses an address in the whole uses it
  uses_up : (e b : ℕ) → e < length ks → b < length (addresses_of x ks)
      → address_of (event_at x (get_or ks e 0)) ≡ Some (get_or (addresses_of x ks) b 0)
      → Reads y e b ⊎ Writes y e b
  uses_up e b h hb is = elim (use_reads (event_at x (get_or ks e 0)) (get_or (addresses_of x ks) b 0) is) [
    | inl reads ↦ inl (reads_up x ks y wf closed r e b h hb reads)
    | inr writes ↦ inr (writes_up x ks y wf closed r e b h hb writes)
  ]

  -- and the other way round
  uses_down : (e b : ℕ) → Reads y e b ⊎ Writes y e b → (e < length ks) × (b < length (addresses_of x ks))
      × (address_of (event_at x (get_or ks e 0)) ≡ Some (get_or (addresses_of x ks) b 0))
  uses_down e b uses = elim uses [
    | inl reads ↦
        let h : e < length ks = omega (arith, Reads-event y e b reads, r.count) in
        let down = reads_down x ks y wf closed r e b h reads in
        (h, down.0, reads_use (event_at x (get_or ks e 0)) (get_or (addresses_of x ks) b 0) down.1)
    | inr writes ↦
        let h : e < length ks = omega (arith, Writes-event y e b writes, r.count) in
        let down = writes_down x ks y wf closed r e b h writes in
        (h, down.0, writes_use (event_at x (get_or ks e 0)) (get_or (addresses_of x ks) b 0) down.1)
  ]

  -- so its addresses are numbered by first use
  pub numbered : IsNumberedByFirstUse y
  numbered = record {
    used = λ a h.
        let ha : a < length (addresses_of x ks) = omega (
          arith,
          h,
          ap (λ (l : List (List ℕ)). length l) r.write_lists,
          length-map (addresses_of x ks) (λ (b : ℕ). kept_of ks (write_list x b)),
        ) in
        let user = used_only x ks (get_or (addresses_of x ks) a 0) (times_at (addresses_of x ks) a ha) in (
          place ks user.0,
          uses_up (place ks user.0) a (place_in ks user.0 user.1) ha
              (ap (λ (e : ℕ). address_of (event_at x e)) (number_at ks user.0 user.1) ∙ user.2),
        );
    in_order = λ e a b uses less.
        let down = uses_down e a uses in
        let first = used_first x ks e a b down.0 down.1 down.2 less in (
          first.0,
          first.1,
          uses_up first.0 b (omega (arith, first.1, down.0)) (omega (arith, less, down.1)) first.2,
        );
  }
