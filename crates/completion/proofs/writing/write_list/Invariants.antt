use Rattle.std.proofs.Common.{◌≡◌, take}
use Rattle.completion.specs.Performed.{writers}
use Rattle.completion.proofs.writing.write_list.Given as goal

abbrev pub invariant-loop-number : goal.invariant-loop-number
invariant-loop-number l = l.list.items ≡ writers l.values l.address (take l.number-index l.order)
