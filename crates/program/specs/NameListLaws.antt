-- Laws of the names of a program, up to one of them.
use Rattle.std.proofs.Common.{◌≡◌, ℕ, zero, suc, ◌+◌, ◌<◌, List, [], ◌∷◌, ◌++◌, length, true}
use Rattle.std.proofs.Common.{false, refl, arith, ◌∙◌, subst}
use Rattle.std.specs.List.{AllByRecursion, IsDistinct, list_any}
use Rattle.std.proofs.lemmas.List.{length-append}
use Rattle.std.proofs.lemmas.List.Elements.{All-from_recursion}
use Rattle.std.proofs.Math.Seq.{get_or-append_seam}
use Rattle.std.proofs.lemmas.Map.Keys.{IsDistinct-head, IsDistinct-tail}
use Rattle.program.specs.declared.name.Name.{Name}
use Rattle.program.specs.Names.{name_eq, no_name, name_number, name_at}
use Rattle.program.specs.NameLaws.{name_laws}

-- one more that holds
pub all_push : {X : Type 0} (P : X → Type 0) (xs : List X) (y : X) → AllByRecursion P xs → P y →
    AllByRecursion P (xs ++ y ∷ [])
all_push P [] y h p = (p, tt)
all_push P (x ∷ xs) y h p = (h.0, all_push P xs y h.1 p)

-- the next number
pub one_more : (n : ℕ) → 1 + n ≡ suc n
one_more n = omega arith

-- a later name differs from the first
differ_at : (x : Name) (xs : List Name) (i : ℕ) → AllByRecursion (λ y. name_eq x y ≡ false) xs →
    i < length xs → name_eq (name_at xs i) x ≡ false
differ_at x xs i h lt = name_laws.symm (name_at xs i) x
    ∙ All-from_recursion (λ y. name_eq x y ≡ false) xs h i no_name lt

-- each name is found at its place
pub name_at_place : (names : List Name) (i : ℕ) → IsDistinct name_eq names → i < length names →
    (list_any (name_eq (name_at names i)) names ≡ true) × (name_number names (name_at names i) ≡ i)
name_at_place [] i d lt = absurd (omega (arith, lt))
name_at_place (x ∷ xs) zero d lt = rw (name_laws.refl x) (refl, refl)
name_at_place (x ∷ xs) (suc i) d lt =
    let within : i < length xs = omega (arith, lt) in
    let other = differ_at x xs i (IsDistinct-head name_eq x xs d) within in
    let later = name_at_place xs i (IsDistinct-tail name_eq x xs d) within in
    rw other (later.0, rw (later.1, one_more i) refl)

-- a name is not among those before it
pub not_before : (front : List Name) (name : Name) (back : List Name) →
    IsDistinct name_eq (front ++ name ∷ back) → list_any (name_eq name) front ≡ false
not_before [] name back d = refl
not_before (x ∷ xs) name back d =
    let head = IsDistinct-head name_eq x (xs ++ name ∷ back) d in
    let within : length xs < length (xs ++ name ∷ back) =
    omega (arith, length-append xs (name ∷ back)) in
    let other : name_eq (name_at (xs ++ name ∷ back) (length xs)) x ≡ false =
    differ_at x (xs ++ name ∷ back) (length xs) head within in
    let this : name_eq name x ≡ false = subst (λ n. name_eq n x ≡ false)
    (get_or-append_seam xs name back no_name) other in
    rw this (not_before xs name back (IsDistinct-tail name_eq x (xs ++ name ∷ back) d))
