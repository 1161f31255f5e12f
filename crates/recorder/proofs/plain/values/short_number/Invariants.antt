use Rattle.std.proofs.Common.{◌≡◌, ◌<◌, ◌^◌, ◌++◌, decimal, drop}
use Rattle.recorder.proofs.plain.values.short_number.Given as goal

abbrev pub invariant-loop-size : goal.invariant-loop-size
invariant-loop-size l = record {
  some : 0 < l.n;
  small : l.n < 10 ^ l.size;
  digits : l.bytes ≡ decimal l.n ++ drop l.size l.bytes;
}
