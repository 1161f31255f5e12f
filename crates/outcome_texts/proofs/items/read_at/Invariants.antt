use Rattle.std.proofs.Common.{◌≡◌, drop}
use Rattle.outcome_texts.specs.ObservedLine.{read_at}
use Rattle.outcome_texts.proofs.items.read_at.Given as goal

abbrev pub invariant-loop-i : goal.invariant-loop-i
invariant-loop-i l = read_at 0 l.number l.ops ≡ read_at l.i l.left (drop l.i l.ops)
