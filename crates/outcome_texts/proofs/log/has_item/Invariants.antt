use Rattle.std.proofs.Common.{◌≡◌, drop, map}
use Rattle.std.specs.List.{list_any}
use Rattle.outcome_texts.specs.Log.{is_item}
use Rattle.outcome_texts.proofs.log.has_item.Given as goal

abbrev pub invariant-loop-word : goal.invariant-loop-word
invariant-loop-word l = list_any is_item (map (λ w. w.items) l.words)
    ≡ list_any is_item (map (λ w. w.items) (drop l.word-index l.words))
