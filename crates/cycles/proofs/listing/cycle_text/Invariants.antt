use Rattle.std.proofs.Common.{◌≡◌, drop}
use Rattle.cycles.specs.Listing.{cycle_text, text_from}
use Rattle.cycles.proofs.listing.cycle_text.Given as goal

abbrev pub invariant-loop-block : goal.invariant-loop-block
invariant-loop-block l = cycle_text l.blocks ≡ text_from l.text.items (drop l.block-index l.blocks)
