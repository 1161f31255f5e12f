-- How many numbers rows have.
use Rattle.std.proofs.Common.{◌≡◌, ◌≢◌, ◌<◌, ◌≤◌, ◌+◌, ◌==◌, ◌&&◌, ℕ, zero, suc, Bool, true, false, not, cond}
use Rattle.std.proofs.Common.{List, [], ◌∷◌, length, arith, refl, ap, ◌∙◌}
use Rattle.std.proofs.lemmas.Bool.Decides.{nat_tests}
use Rattle.std.proofs.lemmas.List.Sums.{count_by-le-length, sum_by-cons}
use Rattle.bitrow.specs.Bits.{is_in}
use Rattle.values.specs.Values.{Values}
use Rattle.completion.specs.declared.left.Left.{Left}
use Rattle.completion.specs.declared.part.Tried.{Tried}
use Rattle.completion.specs.declared.part.Tried.TheVariants.{Allowed, Less, Unknown}
use Rattle.completion.specs.Left.{member_count, AreTried, IsInRow, IsTried}
use Rattle.completion.proofs.Fed.{removed_before, row_below}

count_more : (b : Bool) (row : List Bool) → member_count (b ∷ row) ≡ cond b 1 0 + member_count row
count_more b row = sum_by-cons (λ (c : Bool). cond c 1 0) b row

bit_more : (b d : Bool) → (b ≡ true → d ≡ true) → cond b 1 0 ≤ cond d 1 0
bit_more true true h = omega arith
bit_more true false h = absurd (let clash : false ≡ true = h refl in cc)
bit_more false d h = omega arith

bit_less : (b d : Bool) → b ≡ false → d ≡ true → cond b 1 0 < cond d 1 0
bit_less false true gone here = omega arith
bit_less true d gone here = absurd (let clash : true ≡ false = gone in cc)
bit_less false false gone here = absurd (let clash : false ≡ true = here in cc)

-- no more than it has places
pub count_below : (row : List Bool) → member_count row ≤ length row
count_below row = count_by-le-length (λ (b : Bool). b) row

-- a row with a number has some
pub some_member : (row : List Bool) (e : ℕ) → IsInRow row e → 0 < member_count row
some_member [] e h = absurd (omega (arith, row_below [] e h))
some_member (b ∷ row) zero h = omega (arith, count_more b row, bit_less false b refl h)
some_member (b ∷ row) (suc e) h = omega (arith, count_more b row, some_member row e h)

-- a row whose numbers are those of another has no more
pub fewer_members : (new old : List Bool) → length new ≡ length old → ((e : ℕ) → IsInRow new e → IsInRow old e)
    → member_count new ≤ member_count old
fewer_members [] old size these = omega arith
fewer_members (b ∷ new) [] size these = absurd (omega (arith, size))
fewer_members (b ∷ new) (d ∷ old) size these = omega (
  arith,
  count_more b new,
  count_more d old,
  bit_more b d (these zero),
  fewer_members new old (omega (arith, size)) (λ e. these (suc e)),
)

-- and fewer, where one of the other's is not in it
less_members : (new old : List Bool) (e : ℕ) → length new ≡ length old
    → ((f : ℕ) → IsInRow new f → IsInRow old f) → IsInRow old e → is_in new e ≡ false
    → member_count new < member_count old
less_members new [] e size these here gone = absurd (omega (arith, row_below [] e here))
less_members [] (d ∷ old) e size these here gone = absurd (omega (arith, size))
less_members (b ∷ new) (d ∷ old) zero size these here gone = omega (
  arith,
  count_more b new,
  count_more d old,
  bit_less b d gone here,
  fewer_members new old (omega (arith, size)) (λ e. these (suc e)),
)
less_members (b ∷ new) (d ∷ old) (suc e) size these here gone = omega (
  arith,
  count_more b new,
  count_more d old,
  bit_more b d (these zero),
  less_members new old e (omega (arith, size)) (λ f. these (suc f)) here gone,
)

-- so it is where one was taken out
pub removed_members : (new old : List Bool) (e : ℕ) → length new ≡ length old
    → ((j : ℕ) → is_in new j ≡ (is_in old j && not (j == e))) → IsInRow old e → member_count new < member_count old
removed_members new old e size numbers here = less_members new old e size
    (λ f h. (removed_before old new e f (numbers f) h).0) here
    (numbers e ∙ (ap (λ (b : Bool). b && not (e == e)) here ∙ grind (arith, nat_tests)))

-- what is left without an event is less
pub tried_less : (v : Values) (l : Left) (n limit e : ℕ) (row : List Bool) (t : Tried) → t ≢ Allowed
    → length row ≡ length l.row → ((j : ℕ) → is_in row j ≡ (is_in l.row j && not (j == e))) → IsInRow l.row e
    → IsTried v row limit t → AreTried v l n limit t
tried_less v l n limit e row Allowed other size numbers here is = absurd (other refl)
tried_less v l n limit e row (Less k) other size numbers here is =
    (is.0, omega (arith, is.1, removed_members row l.row e size numbers here))
tried_less v l n limit e row Unknown other size numbers here is = is
