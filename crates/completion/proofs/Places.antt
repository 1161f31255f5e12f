-- Where the cores of a situation are, and where they come to by free steps.
use Rattle.std.proofs.Common.{◌≡◌, ◌<◌, ◌≤◌, ◌+◌, ◌-◌, inl, inr, ℕ, zero, suc, None, List, [], ◌∷◌, length, get_or}
use Rattle.std.proofs.Common.{replicate}
use Rattle.std.proofs.Common.{arith, refl, sym, ap, subst, ◌∙◌}
use Rattle.std.proofs.lemmas.Bool.{cases_lt}
use Rattle.std.proofs.lemmas.List.{get_or_past, get_or-replicate, length-replicate}
use Rattle.recording.specs.declared.event.Event.{Event}
use Rattle.values.specs.Values.{Values}
use Rattle.completion.specs.Situation.{memory_of}
use Rattle.completion.specs.Situation.{events_of, past_free, each, settled, mark, marked}
use Rattle.situations.specs.Situation.{Situation, place_of, drained_of}
use Rattle.completion.proofs.Lists.{IsPast, past_is}

-- Numbers for cores

-- there is a number for each core
pub each_size : (n c : ℕ) (f : ℕ → ℕ) → length (each n c f) ≡ n
each_size zero c f = refl
each_size (suc n) c f = omega (arith, each_size n (c + 1) f)

-- it is that of the core
pub each_at : (n c i : ℕ) (f : ℕ → ℕ) → i < n → get_or (each n c f) i 0 ≡ f (c + i)
each_at zero c i f h = absurd (omega arith)
each_at (suc n) c zero f h = let same : c ≡ c + 0 = omega arith in ap f same
each_at (suc n) c (suc i) f h =
    let same : c + 1 + i ≡ c + suc i = omega arith in each_at n (c + 1) i f (omega arith) ∙ ap f same

-- also where the first core is the first of all
pub first_at : (n i : ℕ) (f : ℕ → ℕ) → i < n → get_or (each n 0 f) i 0 ≡ f i
first_at n i f h = let same : 0 + i ≡ i = omega arith in each_at n 0 i f h ∙ ap f same

-- the number of one core, and those of the rest
pub each_more : (n c : ℕ) (f : ℕ → ℕ) → c < n → each (n - c) c f ≡ f c ∷ each (n - (c + 1)) (c + 1) f
each_more n c f h =
    let one : n - c ≡ suc (n - (c + 1)) = omega (arith, h) in ap (λ (k : ℕ). each k c f) one

-- Situations that moves can lead to

-- each core is within its events, and memory no further
pub record IsFit (v : Values) (s : Situation) : Type 0 where
  pub places : length s.places ≡ length v.cores
  pub drained : length s.drained ≡ length v.cores
  pub low : (c : ℕ) → drained_of s c ≤ place_of s c
  pub within : (c : ℕ) → place_of s c ≤ length (events_of v.cores c)

module _ (v : Values) (s : Situation) (h : IsFit v s) where
  -- where a core comes to by free steps
  goes : (c : ℕ) → c < length v.cores → IsPast v (memory_of s) c (drained_of s c) (place_of s c) (place_of (settled v s) c)
  goes c there =
      subst (λ (t : ℕ). IsPast v (memory_of s) c (drained_of s c) (place_of s c) t)
      (sym (first_at (length v.cores) c (λ d. past_free v (memory_of s) d (drained_of s d) (place_of s d)) there))
      (past_is v (memory_of s) c (drained_of s c) (length (events_of v.cores c) - place_of s c) (place_of s c) (h.low c)
      (omega (arith, h.within c)))

  -- also one that is not there
  pub settles : (c : ℕ) → IsPast v (memory_of s) c (drained_of s c) (place_of s c) (place_of (settled v s) c)
  settles c = elim (cases_lt c (length v.cores)) [
    | inl there ↦ goes c there
    | inr past ↦
        let none : events_of v.cores c ≡ [] = get_or_past v.cores c [] past in
        let size : length (events_of v.cores c) ≡ 0 = ap (λ (l : List Event). length l) none in
        let at : place_of (settled v s) c ≡ 0 = get_or_past (settled v s).places c 0 (omega (
          arith,
          past,
          each_size (length v.cores) 0 (λ d. past_free v (memory_of s) d (drained_of s d) (place_of s d)),
        )) in
        record {
          from = omega (arith, at, h.within c, size);
          within = omega (arith, at);
          passed = λ i from to. absurd (omega (arith, to, at));
          stops = λ less. absurd (omega (arith, less, size));
        }
  ]

  pub settled_fit : IsFit v (settled v s)
  settled_fit = record {
    places = each_size (length v.cores) 0 (λ d. past_free v (memory_of s) d (drained_of s d) (place_of s d));
    drained = h.drained;
    low = λ c. omega (arith, h.low c, (settles c).from);
    within = λ c. (settles c).within;
  }

-- The beginning

-- a list has a number everywhere, or 0
pub zero_at : (n i : ℕ) → get_or {A = ℕ} (replicate n 0) i 0 ≡ 0
zero_at n i = elim (cases_lt i n) [
  | inl inside ↦ get_or-replicate n i 0 0 inside
  | inr past ↦ get_or_past (replicate n 0) i 0 (omega (arith, past, length-replicate {A = ℕ} n 0))
]

-- before its free steps
abbrev pub blank : Values → Situation
blank v = record {
  places = replicate (length v.cores) 0;
  drained = replicate (length v.cores) 0;
  memory = v.initial;
  notes = replicate (length v.initial) (marked v (mark None));
}

pub blank_fit : (v : Values) → IsFit v (blank v)
blank_fit v = record {
  places = length-replicate {A = ℕ} (length v.cores) 0;
  drained = length-replicate {A = ℕ} (length v.cores) 0;
  low = λ c. omega arith;
  within = λ c. omega (arith, zero_at (length v.cores) c);
}
