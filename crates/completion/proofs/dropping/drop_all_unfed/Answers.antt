use Rattle.std.proofs.Common.{arith}
use Rattle.completion.proofs.Fed.{leaves_all}
use Rattle.completion.proofs.MemberCounts.{count_below, some_member}
use Rattle.completion.proofs.dropping.drop_all_unfed.Goals as goal

pub loop-pass-init : goal.loop-pass-init
loop-pass-init c = record {
  size = c.requires.row;
  leaves = leaves_all c.args.values.now c.args.row.now;
  few = omega (arith, count_below c.args.row.now, c.requires.row);
}

pub returns-then-not-drop_each_unfed-clause-fed : goal.returns-then-not-drop_each_unfed-clause-fed
returns-then-not-drop_each_unfed-clause-fed c = c.drop_each_unfed.ensures.fed c.if-not-drop_each_unfed.true

pub returns-clause-fed : goal.returns-clause-fed
returns-clause-fed c e s inside may = absurd (omega (
  arith,
  some_member c.loop-pass.row e inside,
  c.loop-pass.invariant.few,
  c.loop-pass-test.false,
  c.loop-pass.auto.pass-end,
))
