use Rattle.std.proofs.Common.{inl, inr, ℕ, List, Option, None, arith, ap, length, get_or, ◌∙◌}
use Rattle.std.proofs.lemmas.Bool.{cases_lt}
use Rattle.completion.proofs.Finals.{known_past}
use Rattle.completion.proofs.known.keeps_finals.Goals as goal

pub returns-clause-holds : goal.returns-clause-holds
returns-clause-holds c test a n known = elim (cases_lt a c.loop-a.a) [
  | inl low ↦ c.loop-a.invariant a n low (ap (λ (l : List (Option ℕ)). get_or l a None) c.final_values-known.ensures ∙ known)
  | inr past ↦
      let lengths = ap (λ (l : List (Option ℕ)). length l) c.final_values-known.ensures in
      absurd (omega (
        arith,
        known_past c.args.values.now.final_values a n
            (omega (arith, past, lengths, c.loop-a-test.false, c.loop-a.auto.a-end)) known,
      ))
]
