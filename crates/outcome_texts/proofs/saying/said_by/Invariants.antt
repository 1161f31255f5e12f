use Rattle.std.proofs.Common.{◌≡◌, ◌+◌, drop, map}
use Rattle.outcome_texts.specs.ObservedLine.{said_by, said_from}
use Rattle.outcome_texts.proofs.saying.said_by.Given as goal

abbrev pub invariant-loop-i : goal.invariant-loop-i
invariant-loop-i l = said_by l.program l.ending (map (λ w. w.items) l.words)
    ≡ said_from l.program l.ending (l.i + 1) l.seen.items (drop l.i (map (λ w. w.items) l.words))
