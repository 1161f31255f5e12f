-- What is known of something that was found, or made.
use Rattle.std.proofs.Common.{◌≡◌, Option, Some, None, option_map, IfSome, IsSome, refl, Result, Ok, Err, IfOk, subst}
use Rattle.std.proofs.Common.{Bool, true, false, if◌then◌else◌}

-- where something was found, more is known of it
pub if_some : {A : Type 0} {P Q : A → Type 0} (o : Option A) → IfSome o P → ((x : A) → P x → Q x) → IfSome o Q
if_some None h more = tt
if_some (Some x) h more = more x h

-- what is known of something by what it is
pub known : {A : Type 0} {P : A → Type 0} (o : Option A) → ((x : A) → o ≡ Some x → P x) → IfSome o P
known None each = tt
known (Some x) each = each x refl

-- what is known of what was found
pub found_is : {A : Type 0} (P : A → Type 0) (o : Option A) (x : A) → o ≡ Some x → IfSome o P → P x
found_is {A} P o x is h = subst (λ (q : Option A). IfSome q P) is h

-- what is known of something that is there
pub some_is : {A : Type 0} (P : A → Type 0) (o : Option A) → IsSome o → IfSome o P
    → (x : A) × (o ≡ Some x) × P x
some_is P None there h = absurd cc
some_is P (Some x) there h = (x, refl, h)

-- what was made of something
pub some_mapped : {A B : Type 0} (g : A → B) (o : Option A) (y : B) → option_map g o ≡ Some y
    → (x : A) × (o ≡ Some x) × (g x ≡ y)
some_mapped g None y is = absurd cc
some_mapped g (Some x) y is = (x, refl, cc)

-- what is always so, where all went well
pub always : {A E : Type 0} {P : Type 0} (r : Result A E) → P → IfOk r (λ x. P)
always (Ok x) p = p
always (Err e) p = tt

-- where all went well, more is so
pub if_ok : {A E : Type 0} {P Q : Type 0} (r : Result A E) → (P → Q) → IfOk r (λ x. P) → IfOk r (λ x. Q)
if_ok (Ok x) more p = more p
if_ok (Err e) more p = tt

-- a function goes into both cases
pub map_if : {A B : Type 0} (g : A → B) (b : Bool) (p q : Option A)
    → option_map g (if b then p else q) ≡ (if b then option_map g p else option_map g q)
map_if g true p q = refl
map_if g false p q = refl
