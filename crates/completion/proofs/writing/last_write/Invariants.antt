use Rattle.std.proofs.Common.{◌≡◌, take}
use Rattle.completion.specs.Performed.{last_of, writers}
use Rattle.completion.proofs.writing.last_write.Given as goal

abbrev pub invariant-loop-number : goal.invariant-loop-number
invariant-loop-number l = l.last ≡ last_of (writers l.values l.address (take l.number-index l.order))
