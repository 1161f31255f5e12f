use Rattle.std.proofs.Common.{◌≡◌, take}
use Rattle.surveys.specs.Each.{each_text}
use Rattle.surveys.proofs.each.each_text.Given as goal

abbrev pub invariant-loop-i : goal.invariant-loop-i
invariant-loop-i l = l.out.items ≡ each_text l.first (take l.i l.findings)
