-- The last of a list, and what is before it.
use Rattle.std.proofs.Common.{◌≡◌, ◌-◌, List, [], ◌∷◌, ◌++◌, length, take, slice_get, IfSome, refl, sym}
use Rattle.std.proofs.Common.{subst, arith, length-append}
use Rattle.std.proofs.Math.Seq.{take-append_seam}
use Rattle.circular_buffer.proofs.Places.{slice_get-last, cut_end}

-- without its last entry a list is what stood before it
abbrev pub IsCut : {X : Type 0} → List X → Type 0
IsCut xs = IfSome (slice_get xs (length xs - 1)) (λ x. xs ≡ take (length xs - 1) xs ++ x ∷ [])

-- a list that ends with x
cut_at : {X : Type 0} (us : List X) (x : X) → IsCut (us ++ x ∷ [])
cut_at us x =
    let before : length (us ++ x ∷ []) - 1 ≡ length us = omega (arith, length-append us (x ∷ [])) in
    rw (before, slice_get-last us x (length us) refl, take-append_seam us (x ∷ [])) refl

-- each list
pub is_cut : {X : Type 0} (xs : List X) → IsCut xs
is_cut [] = tt
is_cut (y ∷ ys) =
    let end = cut_end (y ∷ ys) (omega arith) in
    subst IsCut (sym end.2) (cut_at end.0 end.1)
