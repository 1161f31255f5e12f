use Rattle.completion.proofs.Chosen.{gives, gives_once}
use Rattle.completion.proofs.determined.has_no_choice.Goals as goal

pub returns-then-not-is_fed_once-clause-fails : goal.returns-then-not-is_fed_once-clause-fails
returns-then-not-is_fed_once-clause-fails c same free = c.is_fed_once.ensures.fails c.if-not-is_fed_once.true
    (λ s t ours theirs. free.sources s t (gives c.args.values.now c.args.e s ours) (gives c.args.values.now c.args.e t theirs))

pub returns-clause-holds : goal.returns-clause-holds
returns-clause-holds c holds = record {
  sources = gives_once c.args.values.now c.args.e (c.writes_back.ensures.fails c.if-writes_back.false)
      (c.is_fed_once.ensures.holds c.if-not-is_fed_once.false);
  other = c.writes_back.ensures.fails c.if-writes_back.false;
  writes = c.is_only_write.ensures.holds holds;
}
