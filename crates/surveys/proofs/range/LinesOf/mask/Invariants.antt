use Rattle.std.proofs.Common.{◌≡◌, ◌≤◌, ◌++◌, ◌-◌, ℕ, List, drop, length, take}
use Rattle.surveys.specs.Ranges.{masked}
use Rattle.surveys.proofs.range.LinesOf.mask.Given as goal

abbrev pub invariant-bytes : goal.invariant-bytes
invariant-bytes g l = record {
  source : l.self.source ≡ l.fn.self.source;
  size : length l.bytes ≡ length l.fn.bytes;
  within : l.at ≤ length l.bytes;
  rest : drop l.at l.bytes ≡ drop l.at l.fn.bytes;
  done : (more : List ℕ) → masked l.fn.self.before l.fn.self.count (l.fn.bytes ++ more)
      ≡ take l.at l.bytes ++ masked l.self.before l.self.count (drop l.at l.bytes ++ more);
}

abbrev pub decreases-bytes : goal.decreases-bytes
decreases-bytes g l = length l.bytes - l.at
