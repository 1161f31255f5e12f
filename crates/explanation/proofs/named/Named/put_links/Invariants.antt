use Rattle.std.proofs.Common.{◌≡◌, ◌++◌, ℕ, List}
use Rattle.explanation.specs.Cycle.{AreLinks}
use Rattle.explanation.proofs.named.Named.put_links.Given as goal

abbrev pub invariant-loop-i : goal.invariant-loop-i
invariant-loop-i l = (links : List ℕ) × AreLinks l.self.recording.now l.self.names.now l.cycle l.i links
    × (l.out.items ≡ l.fn.out.items ++ links)
