use Rattle.std.proofs.Common.{◌≡◌, drop, map}
use Rattle.outcome_texts.specs.Log.{count_text, item_texts}
use Rattle.outcome_texts.proofs.log.line_text.Given as goal

abbrev pub invariant-loop-i : goal.invariant-loop-i
invariant-loop-i l = item_texts (count_text l.count) (map (λ w. w.items) l.words)
    ≡ item_texts l.out.items (map (λ w. w.items) (drop l.i l.words))
