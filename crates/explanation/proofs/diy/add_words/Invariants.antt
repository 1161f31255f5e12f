use Rattle.std.proofs.Common.{◌≡◌, ◌++◌, take}
use Rattle.std.specs.Prelude.{string_bytes}
use Rattle.std.specs.List.{flat_map}
use Rattle.explanation.specs.Diy.{word}
use Rattle.explanation.proofs.diy.add_words.Given as goal

abbrev pub invariant-loop-step : goal.invariant-loop-step
invariant-loop-step l = string_bytes l.words ≡ string_bytes l.fn.words ++ flat_map word (take l.step-index l.steps)
