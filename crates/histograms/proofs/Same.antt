-- Outcomes that are one.
use Rattle.std.proofs.Common.{◌≡◌, inl, inr, true, false, nat_eq, rules, sym, ap, ◌∙◌}
use Rattle.std.specs.Cmp.{IsEquivalence}
use Rattle.std.specs.Cmp.Lexicographic.{pointwise, same_text}
use Rattle.std.specs.Cmp.Rules.{comparing}
use Rattle.std.proofs.lemmas.Bool.{cases_Bool}
use Rattle.outcomes.specs.Outcome.{Outcome}
use Rattle.outcomes.specs.Listed.{same_outcome}

-- the test of outcomes is an equivalence
pub equivalence : IsEquivalence same_outcome
equivalence = search (comparing, rules)

-- an outcome is itself
pub same_itself : (o : Outcome) → same_outcome o o ≡ true
same_itself o = equivalence.refl o

-- and whichever is asked first
pub same_back : (a b : Outcome) → same_outcome a b ≡ same_outcome b a
same_back a b = equivalence.symm a b

-- those that the test takes for one are
pub same_is : (a b : Outcome) → same_outcome a b ≡ true → a ≡ b
same_is a b same = elim (cases_Bool (pointwise nat_eq a.reads b.reads)) [
  | inl reads ↦
      let memory : pointwise nat_eq a.memory b.memory ≡ true = rw reads at same in
      ap (λ r. record { reads = r; memory = a.memory }) (same_text a.reads b.reads (sym reads))
      ∙ ap (λ m. record { reads = b.reads; memory = m }) (same_text a.memory b.memory (sym memory))
  | inr other ↦ let clash : false ≡ true = rw other at same in absurd cc
]
