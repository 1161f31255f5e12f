use Rattle.std.proofs.Common.{◌≡◌, ◌++◌, ◌-◌}
use Rattle.std.specs.List.{flat_map, range_with_len}
use Rattle.cycles.specs.Listing.{extended, listed_if, with_block}
use Rattle.cycles.proofs.listing.extend.Given as goal

abbrev pub invariant-loop-block : goal.invariant-loop-block
invariant-loop-block l =
    l.found.items ++ flat_map (λ b. listed_if (with_block l.chain b)) (range_with_len l.block (17 - l.block))
    ≡ l.fn.found.items ++ extended l.chain
