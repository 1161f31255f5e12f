-- Numbers of events.
use Rattle.std.proofs.Common.{◌≡◌, ◌+◌, ◌-◌, ◌^◌, ℕ, zero, suc, min, List, [], ◌∷◌, map, take, length, get_or, arith}
use Rattle.std.proofs.Common.{refl, ap, ◌∙◌}
use Rattle.std.specs.List.{sum}
use Rattle.std.proofs.lemmas.List.Sums.{sum_by-cons}
use Rattle.recording.specs.declared.event.Event.{Event}

-- how many events the first cores have
abbrev pub start_of : List (List Event) → ℕ → ℕ
start_of cores c = sum (take c (map (λ (es : List Event). length es) cores))

start_first : (es : List Event) (cores : List (List Event)) (c : ℕ)
    → start_of (es ∷ cores) (suc c) ≡ length es + start_of cores c
start_first es cores c = sum_by-cons (λ (n : ℕ). n) (length es) (take c (map (λ (fs : List Event). length fs) cores))

-- with one core more
pub start_more : (cores : List (List Event)) (c : ℕ)
    → start_of cores (suc c) ≡ start_of cores c + length (get_or cores c [])
start_more [] zero = refl
start_more [] (suc c) = refl
start_more (es ∷ cores) zero = omega (arith, start_first es cores zero)
start_more (es ∷ cores) (suc c) = omega (
  arith,
  start_first es cores (suc c),
  start_first es cores c,
  start_more cores c,
)

-- bounded sums
pub bounded_more : (cores : List (List Event)) (c first next n : ℕ) → first ≡ min (start_of cores c) (2 ^ 64 - 1)
    → n ≡ length (get_or cores c []) → next ≡ min (first + n) (2 ^ 64 - 1)
    → next ≡ min (start_of cores (c + 1)) (2 ^ 64 - 1)
bounded_more cores c first next n before size after =
    let more : start_of cores (c + 1) ≡ start_of cores c + length (get_or cores c []) =
    (let same : c + 1 ≡ suc c = omega arith in ap (start_of cores) same ∙ start_more cores c) in
    omega (arith, before, size, after, more)
