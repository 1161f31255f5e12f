use Rattle.std.proofs.Common.{drop}
use Rattle.completion.specs.Circle.{Lead}
use Rattle.completion.proofs.circle.is_round.Given as goal

abbrev pub invariant-loop-link : goal.invariant-loop-link
invariant-loop-link l = Lead l.event (drop l.link-index l.links) l.start → Lead l.start l.links l.start
