use Rattle.std.proofs.Common.{◌≡◌, take}
use Rattle.situations.proofs.packed_list.read_bytes.Given as goal

abbrev pub invariant-loop-i : goal.invariant-loop-i
invariant-loop-i l = take l.i l.words ≡ take l.i l.bytes
