use Rattle.std.proofs.Common.{◌≡◌, drop, map}
use Rattle.outcome_texts.specs.Log.{lines_from, lines_of}
use Rattle.outcome_texts.proofs.words.lines_of.Given as goal

abbrev pub invariant-loop-b : goal.invariant-loop-b
invariant-loop-b l =
    lines_of l.text ≡ lines_from (map (λ w. w.items) l.lines.items) l.line.items (drop l.b-index l.text)
