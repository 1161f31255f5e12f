-- What stands between two places of a list.
use Rattle.std.proofs.Common.{◌≡◌, ◌<◌, ◌≤◌, ◌+◌, ◌-◌, ◌∙◌, ℕ, zero, suc, min, List, [], ◌∷◌, ◌++◌, take, drop, length}
use Rattle.std.proofs.Common.{get_or, arith, refl, sym, ap}
use Rattle.std.proofs.lemmas.List.{drop-append-le, drop-drop, drop-take, drop_all, drop_min, get_or-drop, get_or-take}
use Rattle.std.proofs.lemmas.List.{length-drop, length-take, length-take-le, take-append-drop, take-take, take_min}
use Rattle.std.proofs.lemmas.List.{take_more}
use Rattle.situations.specs.Waiting.{between}

-- a range that is cut at the end
pub range_between : {A : Type 0} → (steps : List A) (from to end begin : ℕ) → end ≡ min to (length steps)
    → begin ≡ min from end → take (end - begin) (drop begin steps) ≡ between steps from to
range_between {A} steps from to end begin ends begins =
    let known : List A = take to steps in
    let whole : begin + (end - begin) ≡ end = omega (arith, begins) in
    let size : end ≡ length known = ends ∙ sym (length-take to steps) in
    sym (drop-take begin (end - begin) steps)
    ∙ (ap (λ (k : ℕ). drop begin (take k steps)) (whole ∙ ends)
    ∙ (ap (drop begin) (take_min to steps)
    ∙ (ap (λ (k : ℕ). drop k known) (begins ∙ ap (min from) size)
    ∙ drop_min from known)))

-- nothing stands in an empty list
pub between_nothing : {A : Type 0} → (d k : ℕ) → between {A = A} [] d k ≡ []
between_nothing zero zero = refl
between_nothing (suc d) zero = refl
between_nothing zero (suc k) = refl
between_nothing (suc d) (suc k) = refl

-- nor between a place and itself
pub between_none : {A : Type 0} → (steps : List A) (d : ℕ) → d ≤ length steps → between steps d d ≡ []
between_none steps d h = drop_all d (take d steps) (omega (arith, length-take-le d steps h))

-- one step more
pub between_more : {A : Type 0} → (steps : List A) (d k : ℕ) (x : A) → d ≤ k → k < length steps
    → between steps d (k + 1) ≡ between steps d k ++ get_or steps k x ∷ []
between_more steps d k x le h =
    ap (drop d) (take_more steps k x h)
    ∙ drop-append-le d (take k steps) (get_or steps k x ∷ [])
    (omega (arith, le, h, length-take-le k steps (omega (arith, h))))

-- how many there are
pub length_between : {A : Type 0} → (steps : List A) (d k : ℕ) → k ≤ length steps
    → length (between steps d k) ≡ k - d
length_between steps d k h = omega (arith, length-drop d (take k steps), length-take-le k steps h)

-- the one at a place
pub between_at : {A : Type 0} → (steps : List A) (d k j : ℕ) (x : A) → d + j < k
    → get_or (between steps d k) j x ≡ get_or steps (d + j) x
between_at steps d k j x h = get_or-drop d (take k steps) j x ∙ get_or-take k steps (d + j) x h

-- those from a later place on
pub between_later : {A : Type 0} → (steps : List A) (d k j : ℕ)
    → drop j (between steps d k) ≡ between steps (d + j) k
between_later steps d k j = drop-drop j d (take k steps)

-- in two parts
pub between_parts : {A : Type 0} → (steps : List A) (d k l : ℕ) → d ≤ k → k ≤ l → k ≤ length steps
    → between steps d l ≡ between steps d k ++ between steps k l
between_parts {A} steps d k l dk kl h =
    ap (drop d) (sym (take-append-drop k (take l steps))
    ∙ ap (λ (z : List A). z ++ drop k (take l steps)) (take-take k l steps kl))
    ∙ drop-append-le d (take k steps) (drop k (take l steps))
    (omega (arith, dk, length-take-le k steps h))
