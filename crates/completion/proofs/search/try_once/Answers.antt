use Rattle.std.proofs.Common.{refl}
use Rattle.completion.specs.Situation.{beginning}
use Rattle.completion.proofs.Comes.{come_by}
use Rattle.completion.proofs.DeadRows.{beginning_dead}
use Rattle.completion.proofs.search.try_once.Goals as goal

pub returns-clause-come : goal.returns-clause-come
returns-clause-come c = come_by c.args.values.now _ _ _ _ _ _ _ c.in_ok-came.came
    (λ _ dead. beginning_dead c.args.values.now c.explore.new.way.seen c.in_ok-came.ensures.searched
    (c.every_completion_is_reached.ensures c.args.values.now _)
    (dead.1 (beginning c.args.values.now) c.requires.first)) (λ _ few. few) refl c.in_ok-came.ensures.come
