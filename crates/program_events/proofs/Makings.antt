-- Operations and the events that they make, place by place.
use Rattle.std.proofs.Common.{◌<◌, ◌+◌, ℕ, List, length, get_or, arith, subst, inl, inr}
use Rattle.std.proofs.lemmas.Bool.{cases_eq}
use Rattle.std.proofs.lemmas.List.{get_or_default}
use Rattle.program.specs.declared.op.Op.{Op}
use Rattle.recording.specs.declared.event.Event.{Event}
use Rattle.program_events.specs.ProgramOf.{Makes}

-- what stands at a place does not hang on what stands past the end
pub makes_at : (ops : List Op) (events : List Event) (i : ℕ) (a b : Op) (d e : Event) → i < length ops
    → i < length events → Makes (get_or ops i a) (get_or events i d)
    → Makes (get_or ops i b) (get_or events i e)
makes_at ops events i a b d e low there h =
    subst (λ (op : Op). Makes op (get_or events i e)) (get_or_default ops i a b low)
    (subst (λ (event : Event). Makes (get_or ops i a) event) (get_or_default events i d e there) h)

-- one more place
pub one_more : (P : ℕ → Type 0) (i : ℕ) → ((j : ℕ) → j < i → P j) → P i → (j : ℕ) → j < i + 1 → P j
one_more P i before here j low = elim (cases_eq i j) [
  | inl is ↦ subst P is here
  | inr other ↦ before j (omega (arith, low, other))
]
