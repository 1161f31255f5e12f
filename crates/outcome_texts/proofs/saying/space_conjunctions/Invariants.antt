use Rattle.std.proofs.Common.{◌≡◌, [], drop}
use Rattle.outcome_texts.specs.ObservedLine.{spaced_from}
use Rattle.outcome_texts.proofs.saying.space_conjunctions.Given as goal

abbrev pub invariant-loop-b : goal.invariant-loop-b
invariant-loop-b l = spaced_from [] l.text ≡ spaced_from l.out.items (drop l.b-index l.text)
