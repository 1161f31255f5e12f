use Rattle.std.proofs.Common.{◌≡◌, [], drop}
use Rattle.cycles.specs.Reading.{read_from}
use Rattle.cycles.proofs.reading.read_from.Given as goal

abbrev pub invariant-loop-b : goal.invariant-loop-b
invariant-loop-b l = read_from [] [] l.text ≡ read_from l.words.items l.one.items (drop l.b-index l.text)
