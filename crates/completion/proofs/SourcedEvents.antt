-- Events with their sources.
use Rattle.std.proofs.Common.{◌≡◌, ◌<◌, ◌+◌, ◌-◌, ◌^◌, ◌∙◌, inl, inr, ℕ, min, Option, Some, None, List, [], ◌∷◌, ◌++◌}
use Rattle.std.proofs.Common.{length, get_or}
use Rattle.std.proofs.Common.{map, take, drop, arith, sym, ap, subst, length-append}
use Rattle.std.proofs.Math.ListN as lists
use Rattle.std.proofs.Math.Seq.{append_snoc}
use Rattle.std.proofs.lemmas.Bool.{cases_lt}
use Rattle.std.proofs.lemmas.List.{drop_more, get_or_append_left, get_or_push, length-map, map-append, take_more}
use Rattle.recording.specs.declared.event.Event.{Event}
use Rattle.recording.specs.declared.event.Event.TheVariants.{F}
use Rattle.recording.specs.Event.{read_address, source}
use Rattle.values.specs.Values.{Values, unsourced}
use Rattle.completion.specs.Performed.{AreSourced, event_source}
use Rattle.completion.specs.Situation.{number_of}
use Rattle.completion.proofs.Hopeful.{same_address}

-- none
pub sourced_none : (v : Values) (sources : List (Option ℕ)) (c : ℕ) (made : List Event) → made ≡ []
    → AreSourced v sources c made
sourced_none v sources c made none j a inside =
    absurd (omega (arith, inside, ap (λ (l : List Event). length l) none))

-- one event more
pub sourced_more : (v : Values) (sources : List (Option ℕ)) (c i n : ℕ) (made : List Event) (x ev : Event) (s : Option ℕ)
    → length made ≡ i → AreSourced v sources c made → unsourced x ≡ unsourced ev
    → ((a : ℕ) → read_address ev ≡ Some a → event_source x ≡ s) → s ≡ get_or sources n None
    → n ≡ min (number_of v.cores c i) (2 ^ 64 - 1) → AreSourced v sources c (made ++ x ∷ [])
sourced_more v sources c i n made x ev s size old same has is number j a inside few reads = elim (cases_lt j (length made)) [
  | inl first ↦
      let at : get_or (made ++ x ∷ []) j F ≡ get_or made j F = get_or_append_left made (x ∷ []) F j first in
      ap source at ∙ old j a first few (sym (ap read_address at) ∙ reads)
  | inr last ↦
      let here : j ≡ length made = omega (arith, last, inside, length-append made (x ∷ [])) in
      let at : get_or (made ++ x ∷ []) j F ≡ x = get_or_push made x F j (sym here) in
      let address : read_address ev ≡ Some a =
      sym (same_address ev) ∙ (sym (ap read_address same) ∙ (same_address x ∙ (sym (ap read_address at) ∙ reads))) in
      let place : j ≡ i = here ∙ size in
      let numbers : n ≡ number_of v.cores c j = omega (
        arith,
        number,
        few,
        ap (number_of v.cores c) place,
      ) in
      ap source at ∙ (has a address ∙ (is ∙ ap (λ (k : ℕ). get_or sources k None) numbers))
]

-- one core more
pub core_more : (v : Values) (sources : List (Option ℕ)) (n : ℕ) (made : List (List Event)) (es : List Event)
    → length made ≡ n → ((c : ℕ) → c < n → AreSourced v sources c (get_or made c [])) → AreSourced v sources n es
    → (c : ℕ) → c < n + 1 → AreSourced v sources c (get_or (made ++ es ∷ []) c [])
core_more v sources n made es size old new c low = elim (cases_lt c n) [
  | inl first ↦ subst (AreSourced v sources c)
      (sym (get_or_append_left made (es ∷ []) [] c (omega (arith, first, size)))) (old c first)
  | inr last ↦
      let at : c ≡ n = omega (arith, low, last) in
      subst (λ (l : List Event). AreSourced v sources c l) (sym (get_or_push made es [] c (omega (arith, size, at))))
      (subst (λ (k : ℕ). AreSourced v sources k es) (sym at) new)
]

-- the rest of an event stays
pub rest_more : (made es : List Event) (i : ℕ) (x d : Event) → i < length es → unsourced x ≡ unsourced (get_or es i d)
    → map unsourced made ++ map unsourced (drop i es) ≡ map unsourced es
    → map unsourced (made ++ x ∷ []) ++ map unsourced (drop (i + 1) es) ≡ map unsourced es
rest_more made es i x d inside same old =
    ap (λ (l : List Event). l ++ map unsourced (drop (i + 1) es)) (map-append unsourced made (x ∷ []))
    ∙ (append_snoc (map unsourced made) (unsourced x) (map unsourced (drop (i + 1) es))
    ∙ (ap (λ (y : Event). map unsourced made ++ y ∷ map unsourced (drop (i + 1) es)) same
    ∙ (ap (λ (l : List Event). map unsourced made ++ map unsourced l) (sym (drop_more es i d inside)) ∙ old)))

-- and of a core
pub rest_core : (made cores : List (List Event)) (es : List Event) (n : ℕ) → n < length cores
    → map unsourced es ≡ map unsourced (get_or cores n [])
    → map (λ fs. map unsourced fs) made ≡ take n (map (λ fs. map unsourced fs) cores)
    → map (λ fs. map unsourced fs) (made ++ es ∷ []) ≡ take (n + 1) (map (λ fs. map unsourced fs) cores)
rest_core made cores es n inside same old =
    map-append (λ (fs : List Event). map unsourced fs) made (es ∷ [])
    ∙ (ap (λ (l : List (List Event)). l ++ map unsourced es ∷ []) old
    ∙ (ap (λ (l : List Event). take n (map (λ fs. map unsourced fs) cores) ++ l ∷ [])
    (same ∙ sym (lists.get_or-map (λ (fs : List Event). map unsourced fs) cores n []))
    ∙ sym (take_more (map (λ fs. map unsourced fs) cores) n []
    (omega (arith, inside, length-map cores (λ (fs : List Event). map unsourced fs))))))
