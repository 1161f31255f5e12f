use Rattle.std.proofs.Common.{arith}
use Rattle.moesi.proofs.Seen.{within, line_read, memory_read}
use Rattle.moesi.proofs.caches.Caches.word.Goals as goal

pub index-requires : goal.index-requires
index-requires c = omega (
  arith,
  within c.self.inside.cores c.self.inside.addresses c.self.inside.words.items c.args.self.now c.self.view_is
      c.args.row c.args.addr c.place.result c.place.ensures c.requires.address c.self.invariant c.requires.row,
  c.self.inside.words.ok.0,
)

pub returns-clause-line : goal.returns-clause-line
returns-clause-line c =
    line_read c.self.inside.cores c.self.inside.addresses c.self.inside.words.items c.args.self.now c.self.view_is
    c.args.row c.args.addr c.place.result c.place.ensures c.requires.address c.index.result.now
    c.index.ensures c.self.invariant

pub returns-clause-memory : goal.returns-clause-memory
returns-clause-memory c =
    memory_read c.self.inside.cores c.self.inside.addresses c.self.inside.words.items c.args.self.now c.self.view_is
    c.args.row c.args.addr c.place.result c.place.ensures c.requires.address c.index.result.now
    c.index.ensures c.self.invariant
