use Rattle.std.proofs.Common.{◌≡◌, take}
use Rattle.std.specs.List.{flat_map}
use Rattle.cycles.specs.Listing.{extended}
use Rattle.cycles.proofs.listing.longer.Given as goal

abbrev pub invariant-loop-chain : goal.invariant-loop-chain
invariant-loop-chain l = l.found.items ≡ flat_map extended (take l.chain-index l.chains)
