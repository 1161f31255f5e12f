use Rattle.std.proofs.Common.{◌≡◌, ◌++◌, map, take}
use Rattle.std.specs.List.{flat_map}
use Rattle.cycles.specs.Listing.{cycle_of}
use Rattle.cycles.proofs.listing.list_cycles.Given as goal

abbrev pub invariant-loop-chain : goal.invariant-loop-chain
invariant-loop-chain l = map (λ v. v.items) l.found.items ≡ map (λ v. v.items) l.fn.found.items ++ flat_map cycle_of (take l.chain-index l.chains)
