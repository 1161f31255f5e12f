use Rattle.std.proofs.Common.{◌≡◌, drop, length, take}
use Rattle.situations.proofs.CodedNumbers.{AreCodes}
use Rattle.situations.proofs.codes.Coded.of.Given as goal

abbrev pub invariant-loop-i : goal.invariant-loop-i
invariant-loop-i l = record {
  size : length l.codes.items ≡ length l.words;
  codes : AreCodes (take l.i l.codes.items) l.large.items (drop l.i l.words) l.words;
}
