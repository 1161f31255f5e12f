-- What holds of the pairs that rows mark, and of the words of a row.
use Rattle.std.proofs.Common.{◌<◌, ◌≤◌, ◌*◌, inl, inr, ℕ, Bool, false, List, [], length, get_or, arith, sym, ap, ◌∙◌}
use Rattle.std.proofs.lemmas.Bool.{cases_lt, true≢false}
use Rattle.std.proofs.lemmas.List.{get_or_past}
use Rattle.bitrow.specs.Bits.{is_in, IsWidth}
use Rattle.bitrow.specs.Rows.{Marked, IsBitSquare}

-- what is marked is within the square
pub marked_within : (rows : List (List Bool)) → IsBitSquare rows → (e f : ℕ) → Marked rows e f
    → (e < length rows) × (f < length rows)
marked_within rows square e f is = elim (cases_lt e (length rows)) [
  | inr past ↦ absurd (true≢false (sym is
      ∙ (ap (λ (row : List Bool). is_in row f) (get_or_past rows e [] past)
      ∙ get_or_past {X = Bool} [] f false (omega arith))))
  | inl below ↦ elim (cases_lt f (length rows)) [
    | inl also ↦ (below, also)
    | inr beyond ↦ absurd (true≢false (sym is
        ∙ get_or_past (get_or rows e []) f false (omega (arith, beyond, square.each e below))))
  ]
]

-- the words of a set are enough
pub wide_enough : (words n : ℕ) → IsWidth words n → n ≤ 64 * words
wide_enough words n h = elim (cases_lt n 65) [
  | inl one ↦ omega (arith, one, h.one (omega (arith, one)))
  | inr some ↦ elim (cases_lt n 129) [
    | inl two ↦ omega (arith, two, h.two (omega (arith, some)) (omega (arith, two)))
    | inr more ↦ elim (cases_lt n 257) [
      | inl four ↦ omega (arith, four, h.four (omega (arith, more)) (omega (arith, four)))
      | inr most ↦ omega (arith, h.eights (omega (arith, most)))
    ]
  ]
]
