use Rattle.std.proofs.Common.{◌≡◌, take}
use Rattle.verification.specs.Proof.{Are16Bit}
use Rattle.verification.proofs.numbers.labels_of.Given as goal

abbrev pub invariant-loop-i : goal.invariant-loop-i
invariant-loop-i l = record {
  short : Are16Bit l.labels.items;
  only : Are16Bit l.numbers → l.labels.items ≡ take l.i l.numbers;
}
