use Rattle.std.proofs.Common.{◌≡◌, ◌++◌, drop}
use Rattle.values_text.specs.Text.{known_core}
use Rattle.values_text.proofs.known.known_core.Given as goal

abbrev pub invariant-loop-i : goal.invariant-loop-i
invariant-loop-i l = l.known.items ++ known_core (drop l.i l.events) (drop l.i l.sources)
    ≡ known_core l.events l.sources
