use Rattle.completion.proofs.forcing.force_source.Goals as goal

pub put-requires-clause-link : goal.put-requires-clause-link
put-requires-clause-link c = record {
  address = c.args.read.address;
  reads = c.requires.read.reads;
  source = c.requires.source;
  apart = c.is_own.ensures.fails c.if-is_own.false;
}
