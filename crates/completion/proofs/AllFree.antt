-- Free steps of one core after another.
use Rattle.std.proofs.Common.{◌≡◌, ◌<◌, ◌≤◌, ◌+◌, ◌∙◌, inl, inr, ℕ, List, ap, arith, length}
use Rattle.std.proofs.Common.{get_or-set_other, get_or-set_same, length-set, refl, subst, sym}
use Rattle.std.proofs.lemmas.Bool.{cases_eq}
use Rattle.std.proofs.lemmas.List.{ext_get_or}
use Rattle.situations.specs.Situation.{Situation, drained_of, place_of, with_place}
use Rattle.values.specs.Values.{Values}
use Rattle.completion.specs.Situation.{Memory, each, memory_of, past_free, settled}
use Rattle.completion.proofs.Places.{each_size, first_at}

-- the cores below k have taken their free steps, and the others are where they were
pub record HaveSettled (v : Values) (old new : Situation) (k : ℕ) : Type 0 where
  pub same : new ≡ (let z : Situation = record old { places = new.places } in z)
  pub size : length new.places ≡ length old.places
  pub done : (c : ℕ) → c < k → place_of new c ≡ past_free v (memory_of old) c (drained_of old c) (place_of old c)
  pub rest : (c : ℕ) → k ≤ c → place_of new c ≡ place_of old c

module _ (v : Values) (old : Situation) where
  -- none has
  pub none_settled : HaveSettled v old old 0
  none_settled = record { same = refl; size = refl; done = λ c low. absurd (omega (arith, low)); rest = λ c low. refl }

  -- and one more
  pub one_settled : (new : Situation) (k t : ℕ) → k < length old.places → HaveSettled v old new k
      → t ≡ past_free v (memory_of new) k (drained_of new k) (place_of new k)
      → HaveSettled v old (with_place new k t) (k + 1)
  one_settled new k t inside h is =
      let there : k < length new.places = omega (arith, inside, h.size) in
      let memory : memory_of new ≡ memory_of old = ap memory_of h.same in
      let drained : drained_of new k ≡ drained_of old k = ap (λ (z : Situation). drained_of z k) h.same in
      let at : t ≡ past_free v (memory_of old) k (drained_of old k) (place_of old k) =
      is ∙ (ap (λ (m : Memory). past_free v m k (drained_of new k) (place_of new k)) memory
      ∙ (ap (λ (n : ℕ). past_free v (memory_of old) k n (place_of new k)) drained
      ∙ ap (past_free v (memory_of old) k (drained_of old k)) (h.rest k (omega arith)))) in
      record {
        same = ap (λ (z : Situation). with_place z k t) h.same;
        size = length-set new.places k t ∙ h.size;
        done = λ c low. elim (cases_eq c k) [
          | inl own ↦ subst (λ (d : ℕ). place_of (with_place new k t) d
              ≡ past_free v (memory_of old) d (drained_of old d) (place_of old d)) (sym own)
              (get_or-set_same new.places k t 0 there ∙ at)
          | inr other ↦ get_or-set_other new.places k c t 0 other ∙ h.done c (omega (arith, low, other))
        ];
        rest = λ c high. get_or-set_other new.places k c t 0 (λ own. absurd (omega (arith, own, high)))
            ∙ h.rest c (omega (arith, high));
      }

  -- and all
  pub all_settled : (new : Situation) (k : ℕ) → length old.places ≡ length v.cores → length v.cores ≤ k
      → HaveSettled v old new k → new ≡ settled v old
  all_settled new k cores most h =
      let places : new.places ≡ each (length v.cores) 0
      (λ c. past_free v (memory_of old) c (drained_of old c) (place_of old c)) =
      ext_get_or 0 new.places (each (length v.cores) 0 (λ c. past_free v (memory_of old) c (drained_of old c) (place_of old c)))
      (h.size ∙ (cores ∙ sym (each_size (length v.cores) 0
      (λ c. past_free v (memory_of old) c (drained_of old c) (place_of old c)))))
      (λ c inside. let low : c < length v.cores = omega (arith, inside, h.size, cores) in
      h.done c (omega (arith, low, most))
      ∙ sym (first_at (length v.cores) c (λ d. past_free v (memory_of old) d (drained_of old d) (place_of old d)) low)) in
      h.same ∙ ap (λ (l : List ℕ). let z : Situation = record old { places = l } in z) places
