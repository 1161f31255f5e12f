use Rattle.std.proofs.Common.{◌≡◌, inl, inr, ℕ, Some, arith, subst}
use Rattle.std.proofs.lemmas.Bool.{cases_lt}
use Rattle.completion.specs.Part.{MayFeed}
use Rattle.completion.proofs.Fed.{not_fed}
use Rattle.completion.proofs.feeding.is_fed_at_all.Goals as goal

pub loop-w-preserved : goal.loop-w-preserved
loop-w-preserved c w less may = elim (cases_lt w c.loop-w.w) [
  | inl before ↦ c.loop-w.invariant w before may
  | inr last ↦
      let at : w ≡ c.loop-w.w = omega (arith, less, last) in
      c.is_fed_by.ensures.fails c.if-is_fed_by.false
      (subst (λ (k : ℕ). MayFeed c.args.values.now c.args.e (Some k)) at may)
]

pub returns-clause-fails : goal.returns-clause-fails
returns-clause-fails c same = not_fed c.args.values.now c.args.table.now c.args.e c.requires.table
    (c.is_fed_initially.ensures.fails c.if-is_fed_initially.false)
    (λ w inside. c.loop-w.invariant w (omega (arith, inside, c.loop-w-test.false, c.loop-w.auto.w-end)))
