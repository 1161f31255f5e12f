-- The last visible write, as far as a memory order has been read.
use Rattle.std.proofs.Common.{◌≢◌, ◌<◌, ◌≤◌, ◌+◌, ◌⊎◌, inl, inr, ℕ, Option, Some, None, List, get_or, length}
use Rattle.std.proofs.Common.{arith, ap, sym, subst, ◌∙◌}
use Rattle.std.proofs.lemmas.Bool.{cases_eq}
use Rattle.recording.specs.Order.{place}
use Rattle.recording.specs.Execution.{Execution, Writes, ProgramOrder}
use Rattle.recording.specs.Tso.{Visible, IsLastVisible}
use Rattle.recording.specs.OrderLaws.{place_one}
use Rattle.recording.specs.EventLaws.{Writes-event}
use Rattle.recording.specs.PlaceLaws.{at_place}
use Rattle.order.proofs.Enumerated.{IsTotal, own_place, in_place}

-- a write at one place is visible to a read at another if it stands earlier or is before it on its core
pub visible_at : (x : Execution) (m : List ℕ) → IsTotal x m → (at a i : ℕ) → at < length m → i < length m
    → Writes x (get_or m i 0) a → i ≢ at → (i < at) ⊎ ProgramOrder x (get_or m i 0) (get_or m at 0)
    → Visible x m (get_or m at 0) a (get_or m i 0)
visible_at x m total at a i la li writes apart either = (
  writes,
  (λ one. apart (omega (arith, own_place x m total i li, own_place x m total at la, ap (place m) one))),
  elim either [
    | inl before ↦ inl (
      omega (arith, own_place x m total i li, own_place x m total at la),
      omega (arith, own_place x m total at la),
    )
    | inr own ↦ inr own
  ],
)

-- a visible write stands earlier or is before the read on its core
pub earlier_or_own : (x : Execution) (m : List ℕ) → IsTotal x m → (at a i : ℕ) → at < length m → i < length m
    → Visible x m (get_or m at 0) a (get_or m i 0) → (i < at) ⊎ ProgramOrder x (get_or m i 0) (get_or m at 0)
earlier_or_own x m total at a i la li seen = elim seen.2 [
  | inl before ↦ inl (omega (arith, before, own_place x m total i li, own_place x m total at la))
  | inr own ↦ inr own
]

-- the last of the visible writes that stand before place i
abbrev pub IsLastSoFar : Execution → List ℕ → ℕ → ℕ → ℕ → Option ℕ → Type 0
IsLastSoFar x m e a i None = (w : ℕ) → place m w < i → ¬ Visible x m e a w
IsLastSoFar x m e a i (Some s) = Visible x m e a s × (place m s < i)
    × ((w : ℕ) → place m w < i → Visible x m e a w → place m w ≤ place m s)

-- a visible write at place i is the last so far
pub last_here : (x : Execution) (m : List ℕ) → IsTotal x m → (e a i : ℕ) → i < length m
    → Visible x m e a (get_or m i 0) → IsLastSoFar x m e a (i + 1) (Some (get_or m i 0))
last_here x m total e a i h seen = (
  seen,
  omega (arith, own_place x m total i h),
  λ w within also. omega (arith, own_place x m total i h),
)

-- where the event at place i is not visible, the last so far stays
pub last_more : (x : Execution) (m : List ℕ) (e a i : ℕ) → i < length m → (¬ Visible x m e a (get_or m i 0))
    → (s : Option ℕ) → IsLastSoFar x m e a i s → IsLastSoFar x m e a (i + 1) s
last_more x m e a i h hidden None last = λ w within seen. elim (cases_eq (place m w) i) [
  | inl one ↦ hidden (subst (λ (v : ℕ). Visible x m e a v)
      (sym (ap (λ (j : ℕ). get_or m j 0) (sym one) ∙ at_place m w (omega arith))) seen)
  | inr other ↦ last w (omega arith) seen
]
last_more x m e a i h hidden (Some s) last = (
  last.0,
  omega (arith, last.1),
  λ w within seen. elim (cases_eq (place m w) i) [
    | inl one ↦ absurd (hidden (subst (λ (v : ℕ). Visible x m e a v)
        (sym (ap (λ (j : ℕ). get_or m j 0) (sym one) ∙ at_place m w (omega arith))) seen))
    | inr other ↦ last.2 w (omega arith) seen
  ],
)

-- past the last place the last so far is the last of all
pub last_all : (x : Execution) (m : List ℕ) → IsTotal x m → (e a i : ℕ) → length m ≤ i → (s : Option ℕ)
    → IsLastSoFar x m e a i s → IsLastVisible x m e a s
last_all x m total e a i h None last = λ w seen. last w (omega (
  arith,
  in_place x m total w (Writes-event x w a seen.0),
)) seen
last_all x m total e a i h (Some s) last = (
  last.0,
  λ w seen.
      let lw : place m w < length m = in_place x m total w (Writes-event x w a seen.0) in
      let ls : place m s < length m = in_place x m total s (Writes-event x s a last.0.0) in
      let most : place m w ≤ place m s = last.2 w (omega arith) seen in
      elim (cases_eq (place m w) (place m s)) [
        | inl one ↦ inl (place_one m w s one lw)
        | inr other ↦ inr (omega arith, ls)
      ],
)
