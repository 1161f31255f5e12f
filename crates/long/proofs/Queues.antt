-- Keys in a heap, and one beside it.
use Rattle.std.proofs.Common.{◌≡◌, ◌<◌, ◌≤◌, ◌∷◌, ◌∙◌, inl, inr, ℕ, List, [], get_or, length, arith, refl, sym}
use Rattle.std.proofs.Common.{Option, Some, None}
use Rattle.std.specs.Prelude.{◌↔◌, IsPermutation, IfNone, IfSome, MatchOption}
use Rattle.std.specs.BinaryHeap.{IsHeap, IsUpperBound, PopsGreatest}
use Rattle.std.specs.Ordering.{nat_cmp}
use Rattle.std.proofs.lemmas.Bool.{cases_eq, cases_lt}
use Rattle.recording.specs.Order.{times}
use Rattle.recording.specs.OrderLaws.{place_in, times_here, times_there}
use Rattle.long.proofs.Keys.{at_most_greatest, times_permuted}

-- no key is greater than this one
abbrev pub IsOver : List ℕ → ℕ → Type 0
IsOver keys key = (k : ℕ) → 0 < times keys k → k ≤ key

-- a list of no length
pub empty : (xs : List ℕ) → length xs ≡ 0 → xs ≡ []
empty [] none = refl
empty (x ∷ xs) none = absurd (omega (arith, none))

-- a key that goes into the heap
pub put_below : (key held : ℕ) (keys more : List ℕ) → IsPermutation (key ∷ keys) more → (k : ℕ)
    → times (held ∷ more) k ≡ times (key ∷ held ∷ keys) k
unfolding times
put_below key held keys more moved k = omega (arith, times_permuted (key ∷ keys) more k moved)

-- a key that is held, in the place of one that goes into the heap
pub put_above : (key held : ℕ) (keys more : List ℕ) → IsPermutation (held ∷ keys) more → (k : ℕ)
    → times (key ∷ more) k ≡ times (key ∷ held ∷ keys) k
unfolding times
put_above key held keys more moved k = omega (arith, times_permuted (held ∷ keys) more k moved)

-- a key that no other is greater than is not less than one held, if some other is greater than that
pub top_over : (top held : ℕ) (keys : List ℕ) → IsUpperBound nat_cmp top keys → ¬ IsOver keys held
    → IsOver (held ∷ keys) top
top_over top held keys greatest less = λ k some. elim (cases_lt top held) [
  | inl below ↦ absurd (less (λ j stands. omega (arith, below, at_most_greatest keys top j greatest stands)))
  | inr above ↦ elim (cases_eq k held) [
    | inl same ↦ omega (arith, same, above)
    | inr apart ↦ at_most_greatest keys top k greatest
        (omega (arith, some, times_there keys held k (λ same. apart (sym same))))
  ]
]

-- a held key that no other is greater than
pub held_over : (held : ℕ) (keys : List ℕ) → IsOver keys held → IsOver (held ∷ keys) held
held_over held keys over = λ k some. elim (cases_eq k held) [
  | inl same ↦ omega (arith, same)
  | inr apart ↦ over k (omega (arith, some, times_there keys held k (λ same. apart (sym same))))
]

-- the first key of a list stands there
top_stands : (keys : List ℕ) (top : ℕ) → 0 < length keys → top ≡ get_or keys 0 top → 0 < times keys top
top_stands [] top some is = absurd (omega (arith, some))
top_stands (key ∷ keys) top some is = omega (arith, times_here keys key top (sym is))

-- the greatest key of a heap says whether one is greater
pub over_by_top : (keys : List ℕ) (top key : ℕ) → IsUpperBound nat_cmp top keys → 0 < length keys → top ≡ get_or keys 0 top
    → (top ≤ key) ↔ IsOver keys key
over_by_top keys top key greatest some is = (
  λ low k stands. omega (arith, at_most_greatest keys top k greatest stands, low),
  λ over. over top (top_stands keys top some is),
)

-- in an empty heap none is
pub over_none : (keys : List ℕ) (key : ℕ) → length keys ≡ 0 → IsOver keys key
over_none keys key none = λ k stands. absurd (omega (arith, none, place_in keys k stands))

-- what is taken out of a heap, while none is held
pub popped : (o : Option ℕ) (keys rest : List ℕ) (n m : ℕ) → IsHeap nat_cmp keys → n ≡ length keys
    → IfSome o (λ top. IsPermutation keys (top ∷ rest))
    → IfSome o (λ top. PopsGreatest nat_cmp keys top rest) → IfNone o (n ≡ 0)
    → IfNone o ((rest ≡ keys) × (m ≡ n))
    → MatchOption o (keys ≡ []) (λ key. (k : ℕ) → times keys k ≡ times (key ∷ rest) k)
    × MatchOption o (rest ≡ []) (IsOver keys)
popped None keys rest n m heap size moved greatest none same =
    let gone : keys ≡ [] = empty keys (omega (arith, none, size)) in (gone, same.0 ∙ gone)
popped (Some top) keys rest n m heap size moved greatest none same = (
  λ k. sym (times_permuted keys (top ∷ rest) k moved),
  λ k stands. at_most_greatest keys top k (greatest heap).1 stands,
)

-- and while one is held that some key in the heap is greater than
pub popped_beside : (o : Option ℕ) (held : ℕ) (keys rest : List ℕ) (n : ℕ) → IsHeap nat_cmp keys → n ≡ length keys
    → IfSome o (λ top. IsPermutation keys (top ∷ rest))
    → IfSome o (λ top. PopsGreatest nat_cmp keys top rest) → IfNone o (n ≡ 0) → ¬ IsOver keys held
    → MatchOption o (held ∷ keys ≡ []) (λ key. (k : ℕ) → times (held ∷ keys) k ≡ times (key ∷ held ∷ rest) k)
    × MatchOption o (held ∷ rest ≡ []) (IsOver (held ∷ keys))
unfolding times
popped_beside None held keys rest n heap size moved greatest none less =
    absurd (less (over_none keys held (omega (arith, none, size))))
popped_beside (Some top) held keys rest n heap size moved greatest none less = (
  λ k. omega (arith, times_permuted keys (top ∷ rest) k moved),
  top_over top held keys (greatest heap).1 less,
)
