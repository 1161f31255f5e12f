use Rattle.std.proofs.Common.{◌≡◌, ◌-◌, length}
use Rattle.std.specs.List.{list_all, range_with_len}
use Rattle.cycles.specs.Listing.{is_least, is_passed}
use Rattle.cycles.proofs.listing.is_least.Given as goal

abbrev pub invariant-loop-i : goal.invariant-loop-i
invariant-loop-i l = is_least l.blocks ≡ list_all (is_passed l.blocks) (range_with_len l.i (length l.blocks - l.i))
