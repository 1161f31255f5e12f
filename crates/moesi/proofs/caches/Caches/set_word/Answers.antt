use Rattle.std.proofs.Common.{arith}
use Rattle.moesi.proofs.Seen.{within, line_set, memory_set}
use Rattle.moesi.proofs.caches.Caches.set_word.Goals as goal

pub index_mut-requires : goal.index_mut-requires
index_mut-requires c = omega (
  arith,
  within c.self.inside.cores c.self.inside.addresses c.self.inside.words.items c.args.self.now c.self.view_is
      c.args.row c.args.addr c.place-at.result c.place-at.ensures c.requires.address c.self.invariant c.requires.row,
  c.self.inside.words.ok.0,
)

pub returns-clause-line : goal.returns-clause-line
returns-clause-line c =
    line_set c.self.inside.cores c.self.inside.addresses c.self.inside.words.items c.args.self.now c.self.view_is
    c.args.row c.args.addr c.place-at.result c.place-at.ensures c.requires.address c.self.invariant c.args.word

pub returns-clause-memory : goal.returns-clause-memory
returns-clause-memory c =
    memory_set c.self.inside.cores c.self.inside.addresses c.self.inside.words.items c.args.self.now c.self.view_is
    c.args.row c.args.addr c.place-at.result c.place-at.ensures c.requires.address c.self.invariant c.args.word
