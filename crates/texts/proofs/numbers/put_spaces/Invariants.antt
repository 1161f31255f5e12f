use Rattle.std.proofs.Common.{◌≡◌, ◌++◌}
use Rattle.texts.specs.Numbers.{spaces}
use Rattle.texts.proofs.numbers.put_spaces.Given as goal

abbrev pub invariant-loop-i : goal.invariant-loop-i
invariant-loop-i l = l.out.items ≡ l.fn.out.items ++ spaces l._i
