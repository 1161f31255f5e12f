use Rattle.std.proofs.Common.{Bool, List, subst}
use Rattle.completion.specs.Pairs.{HasPair}
use Rattle.completion.proofs.forcing.force_other.Goals as goal

pub put-requires-clause-link : goal.put-requires-clause-link
put-requires-clause-link c = record {
  address = c.args.read.address;
  reads = c.requires.read.reads;
  source = c.requires.source;
  writes = c.requires.writes;
  other = c.requires.apart;
  not_itself = c.requires.other;
  sees = c.sees.ensures c.if-sees.true;
}

pub put-requires-then-has-clause-link : goal.put-requires-then-has-clause-link
put-requires-then-has-clause-link c = record {
  address = c.args.read.address;
  reads = c.requires.read.reads;
  source = c.requires.source;
  writes = c.requires.writes;
  not_itself = c.requires.other;
  after = c.requires.inferred.shown c.args.source c.args.write (subst
      (λ (rows : List (List Bool)). HasPair rows c.args.source c.args.write) c.deref.ensures.value
      (c.has.ensures.pair c.if-has.true));
}
