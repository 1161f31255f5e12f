use Rattle.std.proofs.Common.{◌≡◌, ◌≤◌, ◌+◌, drop}
use Rattle.std.specs.Prelude.{true}
use Rattle.verification.proofs.Differences.{difference}
use Rattle.verification.proofs.printed.first_difference.Given as goal

abbrev pub invariant-loop-i : goal.invariant-loop-i
invariant-loop-i l = record {
  same : difference l.begins l.line (drop l.i l.text) (drop l.i l.printed) ≡ difference true 1 l.text l.printed;
  small : l.line ≤ l.i + 1;
}
