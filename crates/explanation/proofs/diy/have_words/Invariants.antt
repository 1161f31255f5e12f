use Rattle.std.proofs.Common.{◌≡◌, true, take}
use Rattle.std.specs.List.{list_all}
use Rattle.recording.specs.Execution.{event_at}
use Rattle.explanation.specs.Diy.{has_word}
use Rattle.explanation.proofs.diy.have_words.Given as goal

abbrev pub invariant-loop-number : goal.invariant-loop-number
invariant-loop-number l = list_all (λ e. has_word (event_at l.recording e)) (take l.number-index l.cycle) ≡ true
