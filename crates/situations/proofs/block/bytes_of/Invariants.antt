use Rattle.std.proofs.Common.{◌≡◌, length, take}
use Rattle.situations.proofs.block.bytes_of.Given as goal

abbrev pub invariant-loop-i : goal.invariant-loop-i
invariant-loop-i l = record {
  size : length l.bytes.items ≡ length l.words;
  same : take l.i l.bytes.items ≡ take l.i l.words;
}
