use Rattle.std.proofs.Common.{◌≡◌, inl, inr, arith, subst}
use Rattle.std.proofs.lemmas.Bool.{cases_lt}
use Rattle.completion.specs.Only.{HasNoChoice}
use Rattle.completion.proofs.Chosen.{no_event}
use Rattle.completion.proofs.determined.leave_no_choice.Goals as goal

pub loop-e-preserved : goal.loop-e-preserved
loop-e-preserved c e less = elim (cases_lt e c.loop-e.e) [
  | inl before ↦ c.loop-e.invariant e before
  | inr last ↦
      let at : c.loop-e.e ≡ e = omega (arith, less, last) in
      subst (HasNoChoice c.args.values.now) at (c.has_no_choice.ensures.holds c.if-not-has_no_choice.false)
]

pub returns-clause-holds : goal.returns-clause-holds
returns-clause-holds c holds e = elim (cases_lt e c.loop-e.e) [
  | inl before ↦ c.loop-e.invariant e before
  | inr past ↦ no_event c.args.values.now c.args.table.now e c.requires
      (omega (arith, past, c.loop-e-test.false, c.loop-e.auto.e-end))
]
