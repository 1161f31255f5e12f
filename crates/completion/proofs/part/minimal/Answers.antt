use Rattle.std.proofs.Common.{◌<◌, ℕ, arith, subst}
use Rattle.completion.specs.Left.{IsInRow}
use Rattle.completion.specs.Part.{IsNeeded}
use Rattle.completion.proofs.Alone.{table_size}
use Rattle.completion.proofs.Fed.{part_left}
use Rattle.completion.proofs.MemberCounts.{count_below}
use Rattle.completion.proofs.part.minimal.Goals as goal

pub loop-taken-init : goal.loop-taken-init
loop-taken-init c = record {
  refuted = c.requires.left;
  few = omega (
    arith,
    count_below c.args.left.row,
    c.requires.left.left.size,
    table_size c.args.values.now c.args.table.now c.requires.table,
  );
}

pub returns-in-Allowed : goal.returns-in-Allowed
returns-in-Allowed c =
    let needed = rw c.in-Allowed.is at c.in_ok-try_each.ensures in
    part_left c.args.values.now c.loop-taken.left c.loop-taken.invariant.refuted
    (subst (λ (n : ℕ). (e : ℕ) → e < n → IsInRow c.loop-taken.left.row e
    → IsNeeded c.args.values.now c.loop-taken.left.events.items e)
    (table_size c.args.values.now c.args.table.now c.requires.table) needed)
