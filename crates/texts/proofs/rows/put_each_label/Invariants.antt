use Rattle.std.proofs.Common.{◌≡◌, ◌++◌, take}
use Rattle.texts.specs.Numbers.{numbers_text}
use Rattle.texts.proofs.rows.put_each_label.Given as goal

abbrev pub invariant-loop-label : goal.invariant-loop-label
invariant-loop-label l = l.out.items ≡ l.fn.out.items ++ numbers_text (take l.label-index l.labels)
