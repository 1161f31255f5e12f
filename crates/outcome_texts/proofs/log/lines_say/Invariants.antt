use Rattle.std.proofs.Common.{◌≡◌, ◌+◌, [], drop, map}
use Rattle.outcome_texts.specs.Log.{log_from}
use Rattle.outcome_texts.proofs.log.lines_say.Given as goal

abbrev pub invariant-loop-i : goal.invariant-loop-i
invariant-loop-i l = log_from l.program 1 [] (map (λ w. w.items) l.lines)
    ≡ log_from l.program (l.i + 1) l.seen.items (drop l.i (map (λ w. w.items) l.lines))
