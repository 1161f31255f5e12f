-- The names of a program, cut where one more was used.
use Rattle.std.proofs.Common.{◌≡◌, ℕ, ◌+◌, ◌<◌, ◌≤◌, ◌==◌, nat_lt, List, [], ◌∷◌, ◌++◌, length, cond}
use Rattle.std.proofs.Common.{false, Some, None, refl, arith, sym, ap, subst, inl, inr, ◌⊎◌}
use Rattle.std.specs.List.{AllByRecursion, IsDistinct}
use Rattle.std.proofs.lemmas.Bool.{eqb-true, ltb-true}
use Rattle.std.proofs.lemmas.Option.{none-some, same_Some}
use Rattle.std.proofs.lemmas.List.{length-append, append-nil, append_assoc, get_or_append_left}
use Rattle.std.proofs.Math.Seq.{get_or-append_seam}
use Rattle.program.specs.declared.name.Name.{Name}
use Rattle.program.specs.Names.{name_eq, no_name, names_with, name_number, name_at}
use Rattle.program.specs.Parts.{use_addr}
use Rattle.texts.specs.TestLaws.{cases_of}
use Rattle.program.specs.NameListLaws.{name_at_place, not_before}
use Rattle.litmus.proofs.OneName.{is_new}

-- the names of a program, cut where one more was used
pub record Cut (all : List Name) (front : List Name) (n : ℕ) (name : Name) (a : ℕ) : Type 0 where
  pub more : List Name
  pub back : List Name
  pub parts : all ≡ more ++ back
  pub long : length more ≡ n
  pub next : names_with front name ≡ more
  pub number : name_number front name ≡ a

-- an address is old, or the next one
abbrev pub IsUsed : ℕ → ℕ → ℕ → Type 0
IsUsed m a n = ((a < m) × (n ≡ m)) ⊎ ((a ≡ m) × (n ≡ m + 1))

-- an address that may be used is old, or the next one
pub used_so : (m a n : ℕ) → use_addr m (Some a) ≡ Some n → IsUsed m a n
used_so m a n e = elim (cases_of (nat_lt a m) (Some m) (cond (a == m) (Some (m + 1)) None)
    (Some n) e) [
      | inl said ↦ inl (ltb-true _ _ said.0, sym (same_Some m n said.1))
      | inr other ↦ elim (cases_of (a == m) (Some (m + 1)) None (Some n) other.1) [
        | inl eq ↦ inr (eqb-true _ _ eq.0, sym (same_Some (m + 1) n eq.1))
        | inr none ↦ absurd (none-some n none.1)
      ]
    ]

-- what holds of all holds of the front
all_front : {X : Type 0} (P : X → Type 0) (xs ys : List X) → AllByRecursion P (xs ++ ys) →
    AllByRecursion P xs
all_front P [] ys h = tt
all_front P (x ∷ xs) ys h = (h.0, all_front P xs ys h.1)

-- the front of distinct names is distinct
distinct_front : (front back : List Name) → IsDistinct name_eq (front ++ back) →
    IsDistinct name_eq front
unfolding IsDistinct
distinct_front [] back d = tt
distinct_front (x ∷ xs) back d =
    (all_front (λ y. name_eq x y ≡ false) xs back d.0, distinct_front xs back d.1)

-- the next address was used before: the cut stays
cut_old : (front back : List Name) (a : ℕ) → IsDistinct name_eq (front ++ back) → a < length front →
    Cut (front ++ back) front (length front) (name_at (front ++ back) a) a
cut_old front back a d lt =
    let at = name_at_place front a (distinct_front front back d) lt in
    rw (get_or_append_left front back no_name a lt)
    (record {
      more = front;
      back = back;
      parts = refl;
      long = refl;
      next = rw at.0 refl;
      number = at.1;
    })

-- the next address is new: its name comes over the cut
cut_new : (front back : List Name) → IsDistinct name_eq (front ++ back) →
    length front < length (front ++ back) →
    Cut (front ++ back) front (length front + 1) (name_at (front ++ back) (length front))
    (length front)
cut_new front [] d lt = absurd (omega (arith, lt, ap length (append-nil front)))
cut_new front (x ∷ back) d lt =
    let other = not_before front x back d in
    rw (get_or-append_seam front x back no_name) (record {
      more = front ++ x ∷ [];
      back = back;
      parts = sym (append_assoc front (x ∷ []) back);
      long = length-append front (x ∷ []);
      next = rw other refl;
      number = is_new front x other;
    })

-- the cut after one more address
pub cut_at : (all front back : List Name) (a n : ℕ) → all ≡ front ++ back → IsDistinct name_eq all →
    IsUsed (length front) a n → n ≤ length all → Cut all front n (name_at all a) a
cut_at all front back a n parts d (inl old) le =
    let here : IsDistinct name_eq (front ++ back) =
    subst (λ (xs : List Name). IsDistinct name_eq xs) parts d in
    rw (parts, old.1) (cut_old front back a here old.0)
cut_at all front back a n parts d (inr new) le =
    let here : IsDistinct name_eq (front ++ back) =
    subst (λ (xs : List Name). IsDistinct name_eq xs) parts d in
    let more : length front < length (front ++ back) = omega (arith, le, new.1, ap length parts) in
    rw (parts, new.1, new.0) (cut_new front back here more)
