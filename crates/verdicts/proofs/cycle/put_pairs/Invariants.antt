use Rattle.std.proofs.Common.{◌≡◌, ◌++◌, ℕ, List}
use Rattle.verdicts.specs.VerdictText.{ArePairLines}
use Rattle.verdicts.proofs.cycle.put_pairs.Given as goal

abbrev pub invariant-loop-i : goal.invariant-loop-i
invariant-loop-i l = (lines : List ℕ) × ArePairLines l.places l.cycle l.i lines
    × (l.out.items ≡ l.fn.out.items ++ lines)
