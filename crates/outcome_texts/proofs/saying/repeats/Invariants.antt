use Rattle.std.proofs.Common.{◌≡◌, drop}
use Rattle.std.specs.List.{list_any}
use Rattle.outcomes.specs.Observed.{is_of_one}
use Rattle.outcome_texts.proofs.saying.repeats.Given as goal

abbrev pub invariant-loop-other : goal.invariant-loop-other
invariant-loop-other l =
    list_any (is_of_one l.one) l.seen ≡ list_any (is_of_one l.one) (drop l.other-index l.seen)
