-- Cores that go on from one situation to another, core by core.
use Rattle.std.proofs.Common.{◌≡◌, ◌≢◌, ◌<◌, ◌+◌, ◌==◌, ◌∙◌, inl, inr, ℕ, Bool, cond, Option, List, [], length, arith}
use Rattle.std.proofs.Common.{refl, sym, ap, subst}
use Rattle.std.proofs.lemmas.Bool.{cases_eq, cases_lt, eq-eqb, ne_eqb, lt-ltb, le-ltb}
use Rattle.std.proofs.lemmas.List.{get_or_past}
use Rattle.recording.specs.declared.event.Event.{Event}
use Rattle.values.specs.Values.{Values}
use Rattle.completion.specs.Performed.{IsTrail, Settles, going}
use Rattle.completion.specs.Situation.{Memory, events_of}
use Rattle.situations.specs.Situation.{Situation, place_of}

module _ (old new : Situation) where
  pub going_here : (c k : ℕ) → going old new c k c ≡ k
  going_here c k = ap (λ (b : Bool). cond b (place_of new c) (cond (c == c) k (place_of old c))) (le-ltb c c (omega arith))
      ∙ ap (λ (b : Bool). cond b k (place_of old c)) (eq-eqb c c refl)

  pub going_before : (c k d : ℕ) → d < c → going old new c k d ≡ place_of new d
  going_before c k d less =
      ap (λ (b : Bool). cond b (place_of new d) (cond (d == c) k (place_of old d))) (lt-ltb d c less)

  pub going_after : (c k d : ℕ) → c < d → going old new c k d ≡ place_of old d
  going_after c k d more =
      ap (λ (b : Bool). cond b (place_of new d) (cond (d == c) k (place_of old d))) (le-ltb d c (omega arith))
      ∙ ap (λ (b : Bool). cond b k (place_of old d)) (ne_eqb d c (λ one. absurd (omega (arith, one, more))))

  -- only one core goes on
  pub going_away : (c k l d : ℕ) → d ≢ c → going old new c k d ≡ going old new c l d
  going_away c k l d apart = elim (cases_lt d c) [
    | inl less ↦ going_before c k d less ∙ sym (going_before c l d less)
    | inr most ↦
        let more : c < d = omega (arith, most, apart) in going_after c k d more ∙ sym (going_after c l d more)
  ]

  -- none has, at first
  pub none_gone : (d : ℕ) → place_of old d ≡ going old new 0 (place_of old 0) d
  none_gone d = elim (cases_eq d 0) [
    | inl one ↦ ap (place_of old) one ∙ (sym (going_here 0 (place_of old 0))
        ∙ ap (going old new 0 (place_of old 0)) (sym one))
    | inr other ↦ sym (going_after 0 (place_of old 0) d (omega (arith, other)))
  ]

  -- after one core comes the next
  pub next_goes : (c d : ℕ) → going old new c (place_of new c) d ≡ going old new (c + 1) (place_of old (c + 1)) d
  next_goes c d = elim (cases_lt d c) [
    | inl less ↦ going_before c (place_of new c) d less
        ∙ sym (going_before (c + 1) (place_of old (c + 1)) d (omega (arith, less)))
    | inr most ↦ elim (cases_eq d c) [
      | inl one ↦ ap (going old new c (place_of new c)) one ∙ (going_here c (place_of new c)
          ∙ (sym (going_before (c + 1) (place_of old (c + 1)) c (omega arith))
          ∙ ap (going old new (c + 1) (place_of old (c + 1))) (sym one)))
      | inr other ↦ elim (cases_eq d (c + 1)) [
        | inl next ↦ going_after c (place_of new c) d (omega (arith, next))
            ∙ (ap (place_of old) next ∙ (sym (going_here (c + 1) (place_of old (c + 1)))
            ∙ ap (going old new (c + 1) (place_of old (c + 1))) (sym next)))
        | inr later ↦ going_after c (place_of new c) d (omega (arith, most, other))
            ∙ sym (going_after (c + 1) (place_of old (c + 1)) d (omega (arith, most, other, later)))
      ]
    ]
  ]

  -- all have, at the end
  pub all_gone : (v : Values) (n : ℕ) → Settles v old new → n ≡ length v.cores → (d : ℕ)
      → going old new n (place_of old n) d ≡ place_of new d
  all_gone v n settles is d = elim (cases_lt d n) [
    | inl less ↦ going_before n (place_of old n) d less
    | inr most ↦
        let none : length (events_of v.cores d) ≡ 0 =
        ap (λ (l : List Event). length l) (get_or_past v.cores d [] (omega (arith, most, is))) in
        let same : place_of old d ≡ place_of new d = omega (arith, settles.low d, settles.within d, none) in
        elim (cases_eq d n) [
          | inl one ↦ ap (going old new n (place_of old n)) one ∙ (going_here n (place_of old n)
              ∙ (ap (place_of old) (sym one) ∙ same))
          | inr other ↦ going_after n (place_of old n) d (omega (arith, most, other)) ∙ same
        ]
  ]

-- what is performed says where each core is
pub trail_at : (v : Values) (order : List ℕ) (sources : List (Option ℕ)) (at next drained : ℕ → ℕ)
    (memory : Memory) → ((d : ℕ) → at d ≡ next d) → IsTrail v order sources at drained memory
    → IsTrail v order sources next drained memory
trail_at v order sources at next drained memory same h =
    let one : at ≡ next = λ i d. same d i in subst (λ (f : ℕ → ℕ). IsTrail v order sources f drained memory) one h
