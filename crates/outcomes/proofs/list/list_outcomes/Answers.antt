use Rattle.std.proofs.lemmas.List.Sorted.{All-permutation}
use Rattle.outcomes.specs.Listed.{IsEnding}
use Rattle.outcomes.proofs.Ended.{outcomes_are, outcomes_sorted}
use Rattle.outcomes.proofs.list.list_outcomes.Goals as goal

pub returns-clause-exact : goal.returns-clause-exact
returns-clause-exact c =
    outcomes_sorted c.args.program.now c.in_ok-found.found.keys c.sort.new.self.keys c.in_ok-sort.ensures.reordered.0
    (outcomes_are c.args.program.now c.args.rows.now.keys c.in_ok-found.found.keys
    (λ o. c.every_outcome_is_reached.ensures c.args.program.now o) c.sound.ensures.lawful c.requires
    c.in_ok-found.ensures)

pub returns-clause-ending : goal.returns-clause-ending
returns-clause-ending c =
    All-permutation (IsEnding c.args.program.now.cores c.args.rows.now.keys) c.in_ok-found.found.keys
    c.sort.new.self.keys c.in_ok-sort.ensures.reordered.0 c.in_ok-found.ensures.made
