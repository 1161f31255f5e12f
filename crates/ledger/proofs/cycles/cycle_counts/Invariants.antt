use Rattle.std.proofs.Common.{◌≡◌, ◌≤◌, ◌+◌, ◌-◌, ◌++◌, ℕ, List, get_or, length}
use Rattle.ledger.specs.declared.code.TheConstants.{LONG_CYCLE}
use Rattle.ledger.specs.Counted.{cycle_lines}
use Rattle.ledger.specs.Parts.{Are64Bit}
use Rattle.ledger.proofs.CycleTexts.{AreRead}
use Rattle.ledger.proofs.cycles.cycle_counts.Given as goal

abbrev pub invariant-lines : goal.invariant-lines
invariant-lines l = record {
  size : length l.counts.items ≡ LONG_CYCLE + 1;
  few : l.least ≤ LONG_CYCLE + 1;
  zeros : (v : ℕ) → l.least ≤ v → get_or l.counts.items v 0 ≡ 0;
  only : (counts more : List ℕ) → length counts ≡ LONG_CYCLE + 1 → Are64Bit counts
      → get_or more 0 0 ≡ 102 → l.fn.rest ≡ cycle_lines counts (length counts) ++ more
      → AreRead counts more l.counts.items l.least l.rest;
}

abbrev pub decreases-lines : goal.decreases-lines
decreases-lines l = LONG_CYCLE + 1 - l.least
