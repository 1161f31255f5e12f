-- Lemmas on where the events of a program stand on their cores.
use Rattle.std.proofs.Common.{◌≡◌, ◌<◌, ◌≤◌, ◌+◌, ℕ, suc, List, [], ◌∷◌, length, get_or, arith, sym, ap, subst, ◌∙◌}
use Rattle.std.specs.List.{sum, sum_by}
use Rattle.std.proofs.lemmas.List.Sums.{sum_by-cons}
use Rattle.program.specs.declared.op.Op.{Op}
use Rattle.program.specs.declared.op.Op.TheVariants.{Fence}
use Rattle.recording.specs.Execution.{placed_from}
use Rattle.recording.specs.PlacedLaws.{placed_at, located}
use Rattle.machine.specs.State.{first_event}
use Rattle.program_events.specs.Operations.{placed_op}

-- each core is within its operations, so all together are
pub places_within : (places : List ℕ) (p : List (List Op)) → length places ≡ length p
    → ((c : ℕ) → get_or places c 0 ≤ length (get_or p c [])) → sum places ≤ sum_by (λ ops. length ops) p
places_within [] [] l h = omega arith
places_within [] (ops ∷ p) l h = omega arith
places_within (i ∷ places) [] l h = absurd (omega (arith, l))
places_within (i ∷ places) (ops ∷ p) l h =
    omega (
      arith,
      sum_by-cons (λ (k : ℕ). k) i places,
      sum_by-cons (λ (os : List Op). length os) ops p,
      h 0,
      places_within places p (omega (arith, l)) (λ c. h (suc c)),
    )

module _ (p : List (List Op)) (e : ℕ) (event : e < length (placed_from 0 p)) where
  -- the core of event e
  core : ℕ
  core = (located 0 p e event).0

  -- it is the one that the numbers say
  pub event_core : (placed_op p e).0 ≡ (located 0 p e event).0
  event_core =
      let at = located 0 p e event in
      ap (λ (n : ℕ). (placed_op p n).0) (sym at.4)
      ∙ (ap (λ (z : ℕ × Op). z.0) (placed_at 0 p at.0 at.1 Fence at.3).0 ∙ omega arith)

  -- and e is its operation there
  pub event_op : (placed_op p e).1 ≡ get_or (get_or p (located 0 p e event).0 [])
      (located 0 p e event).1 Fence
  event_op =
      let at = located 0 p e event in
      ap (λ (n : ℕ). (placed_op p n).1) (sym at.4)
      ∙ ap (λ (z : ℕ × Op). z.1) (placed_at 0 p at.0 at.1 Fence at.3).0

  -- it comes after the first of its core, and before the end
  pub event_after : first_event p ((placed_op p e).0) ≤ e
  event_after =
      subst (λ (c : ℕ). first_event p c ≤ e) (sym event_core) (omega (arith, (located 0 p e event).4))

  -- it comes before the end of its core
  pub event_before : e < first_event p ((placed_op p e).0) + length (get_or p ((placed_op p e).0) [])
  event_before =
      rw event_core (omega (arith, (located 0 p e event).4, (located 0 p e event).3))
