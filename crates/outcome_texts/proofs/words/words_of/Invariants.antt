use Rattle.std.proofs.Common.{◌≡◌, drop, map}
use Rattle.outcome_texts.specs.ObservedLine.{words_from, words_of}
use Rattle.outcome_texts.proofs.words.words_of.Given as goal

abbrev pub invariant-loop-b : goal.invariant-loop-b
invariant-loop-b l =
    words_of l.text ≡ words_from (map (λ w. w.items) l.words.items) l.word.items (drop l.b-index l.text)
