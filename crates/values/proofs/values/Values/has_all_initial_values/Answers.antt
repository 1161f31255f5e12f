use Rattle.std.proofs.Common.{◌<◌, ◌⊎◌, ℕ, length, arith, refl}
use borrow.Author.Count.{below_more}
use Rattle.recording.specs.Execution.{Reads, Writes}
use Rattle.values.specs.Refused.{events_alone}
use Rattle.values.proofs.Lawful.{initial_values_all}
use Rattle.values.proofs.values.Values.has_all_initial_values.Goals as goal

pub returns-then-not-has_initial_values_of : goal.returns-then-not-has_initial_values_of
returns-then-not-has_initial_values_of c = (
  λ wrong. absurd cc,
  λ all. c.if-not-has_initial_values_of.ensures.1 (all c.loop-number.number),
)

pub loop-number-preserved : goal.loop-number-preserved
loop-number-preserved c =
    below_more (λ e. (a : ℕ) → Reads (events_alone c.args.self.now) e a ⊎ Writes (events_alone c.args.self.now) e a
    → a < length c.args.self.now.initial) c.loop-number.number c.loop-number.invariant
    (c.if-not-has_initial_values_of.ensures.0 refl)

pub returns : goal.returns
returns c = (
  λ _. initial_values_all c.args.self.now (λ e at. c.loop-number.invariant e
      (omega (arith, at, c.len-number-end.ensures, c.loop-number-test.false))),
  λ _. refl,
)
