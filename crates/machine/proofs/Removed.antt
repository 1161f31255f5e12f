-- What is known of a buffer that loses the entry at one place, and what each word of a fault says where
-- there is none.
use Rattle.std.proofs.Common.{◌≡◌, ◌+◌, ℕ, true, Some, List, [], ◌∷◌, ◌++◌, take, drop, length, slice_get}
use Rattle.std.proofs.Common.{arith, refl, sym, ap, subst, ◌∙◌, add-one, drop-cons, length-append}
use Rattle.std.specs.List.{All}
use Rattle.std.proofs.lemmas.Bool.{eqb-true}
use Rattle.std.proofs.lemmas.List.{take-append-drop, nil_from_length}
use Rattle.std.proofs.lemmas.List.Elements.{All-append, All-take, All-drop}
use Rattle.std.proofs.lemmas.Option.{slice_get_within, get_or_from_slice_get}
use Rattle.write_buffer.specs.declared.entry.Entry.{Entry}
use Rattle.write_buffer.specs.Buffer.{youngest}
use Rattle.program.specs.declared.fault.Fault.{Fault}
use Rattle.program.specs.declared.fault.Fault.TheVariants as fault
use Rattle.machine.specs.Faults.{forwarded, draining, without, may_fence, may_rmw}

-- the entries from a place on begin with the one there
drop_front : (xs : List Entry) (i : ℕ) (x : Entry) → slice_get xs i ≡ Some x → drop i xs ≡ x ∷ drop (i + 1) xs
drop_front xs i x here = rw (
  drop-cons xs i x (slice_get_within xs i x here),
  get_or_from_slice_get xs i x x here,
  add-one,
) refl

-- the entry at a place stands between those before it and those after it
pub split_at : (xs : List Entry) (i : ℕ) (x : Entry) → slice_get xs i ≡ Some x → xs ≡ take i xs ++ x ∷ drop
    (i + 1) xs
split_at xs i x here = sym (take-append-drop i xs) ∙ ap (λ (ys : List Entry). take i xs ++ ys)
    (drop_front xs i x here)

-- one entry less
pub length_without : (xs : List Entry) (i : ℕ) (x : Entry) → slice_get xs i ≡ Some x
    → length (without i xs) + 1 ≡ length xs
length_without xs i x here = omega (
  arith,
  ap (λ (ys : List Entry). length ys) (split_at xs i x here),
  length-append (take i xs) (x ∷ drop (i + 1) xs),
  length-append (take i xs) (drop (i + 1) xs),
)

-- what is true of all is true of those that stay
pub all_without : (P : Entry → Type 0) (xs : List Entry) (i : ℕ) → All P xs → All P (without i xs)
all_without P xs i all = All-append P (take i xs) (drop (i + 1) xs) (All-take P i xs all)
    (All-drop P (i + 1) xs all)

-- without fault the oldest drains, so nothing stands before it
pub none_before : (f : Fault) (xs : List Entry) → f ≡ fault.None → take (draining f xs) xs ≡ []
none_before f xs none = ap (λ (g : Fault). take (draining g xs) xs) none

-- without fault a fence goes on with an empty buffer
pub fence_after : (f : Fault) (xs : List Entry) → may_fence f xs ≡ true → f ≡ fault.None → xs ≡ []
fence_after f xs may none = nil_from_length xs
    (eqb-true _ _ (subst (λ (g : Fault). may_fence g xs ≡ true) none may))

-- so does a read-modify-write
pub rmw_after : (f : Fault) (xs : List Entry) → may_rmw f xs ≡ true → f ≡ fault.None → xs ≡ []
rmw_after f xs may none = nil_from_length xs
    (eqb-true _ _ (subst (λ (g : Fault). may_rmw g xs ≡ true) none may))

-- what a load gets from its buffer is the youngest entry of its address, under every fault
pub forwarded_youngest : (f : Fault) (xs : List Entry) (a : ℕ) (y : Entry) → forwarded f xs a ≡ Some y
    → youngest xs a ≡ Some y
forwarded_youngest fault.NoBypass xs a y h = absurd cc
forwarded_youngest f xs a y h = h
