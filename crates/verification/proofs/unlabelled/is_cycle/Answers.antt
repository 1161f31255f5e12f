use Rattle.std.proofs.Common.{◌≡◌, ℕ, arith, inl, inr, subst, sym, get_or, length}
use Rattle.std.proofs.lemmas.Bool.{cases_lt, ltb-true, lt-ltb}
use Rattle.relations.specs.Cycle.{next_in_cycle}
use Rattle.relations.specs.Forced.{Forced}
use Rattle.long.proofs.Lists.{cycle_next, cycle_some}
use Rattle.verification.proofs.OneText.{cycle_of_pairs, reason_forces}
use Rattle.verification.proofs.unlabelled.is_cycle.Goals as goal

pub returns-in_default : goal.returns-in_default
returns-in_default c =
    let x = c.args.places.now in
    let i = c.loop-i.i in
    let e = get_or c.args.cycle.now i 0 in (
      λ is. absurd cc,
      λ cycle. absurd (c.in_default.ensures (subst (λ (f : ℕ). Forced x e f) (sym c.next_in_cycle.ensures.value)
          (cycle_next (Forced x) c.args.cycle.now cycle i c.loop-i-test.true))),
    )

pub loop-i-preserved : goal.loop-i-preserved
loop-i-preserved c j low =
    let x = c.args.places.now in
    let cycle = c.args.cycle.now in
    let i = c.loop-i.i in
    let here : Forced x (get_or cycle i 0) (next_in_cycle cycle i) =
    subst (λ (f : ℕ). Forced x (get_or cycle i 0) f) c.next_in_cycle.ensures.value
    (reason_forces x (get_or cycle i 0) c.next_in_cycle.result c.in-Some._reason c.in-Some.ensures) in
    elim (cases_lt j i) [
      | inl before ↦ c.loop-i.invariant j before
      | inr not ↦ let same : i ≡ j = omega (arith, low, not) in
          subst (λ (k : ℕ). Forced x (get_or cycle k 0) (next_in_cycle cycle k)) same here
    ]

pub returns : goal.returns
returns c =
    let x = c.args.places.now in
    let cycle = c.args.cycle.now in (
      λ is. cycle_of_pairs x cycle (ltb-true 0 (length cycle) is)
          (λ i low. c.loop-i.invariant i (omega (arith, low, c.loop-i-test.false))),
      λ cyclic. lt-ltb 0 (length cycle) (cycle_some (Forced x) cycle cyclic),
    )
