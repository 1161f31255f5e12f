use Rattle.std.proofs.Common.{◌≡◌, map, take}
use Rattle.completion.specs.Part.{source_in}
use Rattle.completion.proofs.restricting.kept_sources.Given as goal

abbrev pub invariant-loop-number : goal.invariant-loop-number
invariant-loop-number l = l.sources.items ≡ map (source_in l.values l.kept) (take l.number-index l.kept)
