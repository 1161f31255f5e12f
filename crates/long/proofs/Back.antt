-- Walks back from an event, until one is met again.
use Rattle.std.proofs.Common.{◌≡◌, ◌<◌, ◌≤◌, ◌+◌, ◌-◌, ◌↔◌, inl, inr, ℕ, zero, suc, Bool, true, false, List, [], ◌∷◌}
use Rattle.std.proofs.Common.{◌++◌}
use Rattle.std.proofs.Common.{get_or, set, length, replicate, arith, refl, sym, ap, subst, ◌∙◌, length-set}
use Rattle.std.proofs.Common.{get_or-set_same}
use Rattle.std.proofs.Common.{get_or-set_other}
use Rattle.std.proofs.lemmas.Bool.{cases_eq, cases_lt, true≢false}
use Rattle.std.proofs.lemmas.List.{get_or_append_left, get_or_past, get_or_push, length-replicate}
use Rattle.recording.specs.EnumerationLaws.{distinct_below}
use Rattle.recording.specs.Execution.{Execution}
use Rattle.recording.specs.Order.{times}
use Rattle.recording.specs.OrderLaws.{cases_times, times_nil}
use Rattle.relations.specs.Forced.{Forced}
use Rattle.long.specs.Chains.{Chains, times_kept}
use Rattle.long.specs.Walks.{AreBefore, IsClosedStack, IsWalk}
use Rattle.long.proofs.Lists.{length_push, times_push_same, times_push_other}

-- a walk as far as it goes, and the next event
pub record IsWalking (befores : List ℕ) (seen : List Bool) (stack : List ℕ) (at : ℕ) : Type 0 where
  pub size : length seen ≡ length befores
  pub on : 0 < get_or befores at 0
  pub marks : (e : ℕ) → (get_or seen e false ≡ true) ↔ (0 < times stack e)
  pub once : (e : ℕ) → times stack e ≤ 1
  pub within : (e : ℕ) → 0 < times stack e → e < length befores
  pub back : (i : ℕ) → i + 1 < length stack → get_or befores (get_or stack i 0) 0 ≡ get_or stack (i + 1) 0 + 1
  pub last : 0 < length stack → get_or befores (get_or stack (length stack - 1) 0) 0 ≡ at + 1

-- what has an event before it is an event
on_within : (befores : List ℕ) (e : ℕ) → 0 < get_or befores e 0 → e < length befores
on_within befores e some = elim (cases_lt e (length befores)) [
  | inl low ↦ low
  | inr past ↦ absurd (omega (arith, some, get_or_past befores e 0 past))
]

-- nothing is seen at first
none_seen : (n e : ℕ) → get_or (replicate {A = Bool} n false) e false ≡ false
none_seen zero e = refl
none_seen (suc n) zero = refl
none_seen (suc n) (suc e) = none_seen n e

-- a walk begins
pub walking_start : (befores : List ℕ) (at : ℕ) → 0 < get_or befores at 0
    → IsWalking befores (replicate (length befores) false) [] at
walking_start befores at on = record {
  size = length-replicate {A = Bool} (length befores) false;
  on = on;
  marks = λ e. (
    λ seen. absurd (true≢false (sym seen ∙ none_seen (length befores) e)),
    λ stands. absurd (omega (arith, stands, times_nil e)),
  );
  once = λ e. omega (arith, times_nil e);
  within = λ e stands. absurd (omega (arith, stands, times_nil e));
  back = λ i low. absurd (omega (arith, low));
  last = λ some. absurd (omega (arith, some));
}

module _ (befores : List ℕ) (seen : List Bool) (stack : List ℕ) (at : ℕ) (h : IsWalking befores seen stack at) where
  -- the next event is one
  pub walking_low : at < length seen
  walking_low = omega (arith, on_within befores at h.on, h.size)

  -- an event that is not seen does not stand
  fresh : get_or seen at false ≡ false → times stack at ≡ 0
  fresh unseen = elim (cases_times stack at) [
    | inl none ↦ none
    | inr some ↦ absurd (true≢false (sym ((h.marks at).1 some) ∙ unseen))
  ]

  -- where it is pushed each stands once
  once_more : get_or seen at false ≡ false → (e : ℕ) → times (stack ++ at ∷ []) e ≤ 1
  once_more unseen e = elim (cases_eq at e) [
    | inl one ↦ omega (
      arith,
      ap (λ (k : ℕ). times (stack ++ at ∷ []) k) one,
      times_push_same stack at,
      fresh unseen,
    )
    | inr other ↦ omega (arith, times_push_other stack at e other, h.once e)
  ]

  -- and is an event
  within_more : (e : ℕ) → 0 < times (stack ++ at ∷ []) e → e < length befores
  within_more e stands = elim (cases_eq at e) [
    | inl one ↦ subst (λ (k : ℕ). k < length befores) one (on_within befores at h.on)
    | inr other ↦ h.within e (omega (arith, stands, times_push_other stack at e other))
  ]

  -- so there is room for it
  pub walking_room : get_or seen at false ≡ false → length stack < length befores
  walking_room unseen = omega (
    arith,
    distinct_below (length befores) (stack ++ at ∷ []) (once_more unseen) within_more,
    length_push stack at,
  )

  -- and the walk goes on from the one before it
  pub walking_more : get_or seen at false ≡ false
      → ((e : ℕ) → 0 < get_or befores e 0 → 0 < get_or befores (get_or befores e 0 - 1) 0)
      → IsWalking befores (set seen at true) (stack ++ at ∷ []) (get_or befores at 0 - 1)
  walking_more unseen leads =
      let low : at < length seen = omega (arith, on_within befores at h.on, h.size) in
      let longer : length (stack ++ at ∷ []) ≡ length stack + 1 = length_push stack at in record {
        size = length-set seen at true ∙ h.size;
        on = leads at h.on;
        marks = λ e. elim (cases_eq at e) [
          | inl one ↦ subst (λ (k : ℕ). (get_or (set seen at true) k false ≡ true) ↔ (0 < times (stack ++ at ∷ []) k)) one (
            λ _. omega (arith, times_push_same stack at),
            λ _. get_or-set_same seen at true false low,
          )
          | inr other ↦
              let same : get_or (set seen at true) e false ≡ get_or seen e false =
              get_or-set_other seen at e true false (λ is. other (sym is)) in (
                λ is. omega (arith, (h.marks e).0 (sym same ∙ is), times_push_other stack at e other),
                λ stands. same ∙ (h.marks e).1 (omega (arith, stands, times_push_other stack at e other)),
              )
        ];
        once = once_more unseen;
        within = within_more;
        back = λ i inside. elim (cases_lt (i + 1) (length stack)) [
          | inl before ↦ ap (λ (e : ℕ). get_or befores e 0)
              (get_or_append_left stack (at ∷ []) 0 i (omega (arith, before)))
              ∙ h.back i before
              ∙ ap (λ (e : ℕ). e + 1) (sym (get_or_append_left stack (at ∷ []) 0 (i + 1) before))
          | inr not ↦
              let top : i ≡ length stack - 1 = omega (arith, inside, longer, not) in
              let some : i < length stack = omega (arith, inside, longer) in
              ap (λ (e : ℕ). get_or befores e 0) (get_or_append_left stack (at ∷ []) 0 i some)
              ∙ ap (λ (k : ℕ). get_or befores (get_or stack k 0) 0) top
              ∙ h.last (omega (arith, some))
              ∙ ap (λ (e : ℕ). e + 1) (sym (get_or_push stack at 0 (i + 1) (omega (arith, inside, longer, not))))
        ];
        last = λ some.
            let here : get_or (stack ++ at ∷ []) (length (stack ++ at ∷ []) - 1) 0 ≡ at =
            get_or_push stack at 0 (length (stack ++ at ∷ []) - 1) (omega (arith, longer)) in
            omega (arith, ap (λ (e : ℕ). get_or befores e 0) here, h.on);
      }

  -- where the next event is seen the walk is over
  pub walking_over : get_or seen at false ≡ true → IsWalk befores stack at
  walking_over is = record { back = h.back; last = h.last; stands = (h.marks at).0 is }

-- a walk along pairs that are forced closes a cycle
pub walk_closes : (x : Execution) (p : Chains) (counts befores stack : List ℕ) (first : ℕ)
    → ((d e : ℕ) → 0 < times_kept p d e → Forced x d e) → AreBefore p counts befores → IsWalk befores stack first
    → IsClosedStack x stack first
walk_closes x p counts befores stack first forced are walk = record {
  chain = λ i low. pair (get_or stack i 0) (get_or stack (i + 1) 0) (walk.back i low);
  stands = walk.stands;
  forced = λ some. pair (get_or stack (length stack - 1) 0) first (walk.last some);
}
  where
    pair : (e d : ℕ) → get_or befores e 0 ≡ d + 1 → Forced x d e
    pair e d is =
        let back : get_or befores e 0 - 1 ≡ d = omega (arith, is) in
        subst (λ (k : ℕ). Forced x k e) back
        (forced (get_or befores e 0 - 1) e (are.before e (omega (arith, is))).1)
