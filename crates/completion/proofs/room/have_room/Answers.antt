use Rattle.std.proofs.Common.{◌≡◌, false, true, ℕ, List, length, arith, ap}
use Rattle.completion.proofs.Alone.{table_size}
use Rattle.completion.proofs.room.have_room.Goals as goal

pub returns-then-has_addresses : goal.returns-then-has_addresses
returns-then-has_addresses c = (
  λ test. record {
    few_cores = omega (arith, c.core_count.ensures, c.if-core_count-gt-MAX_CORES.false);
    few_events = omega (
      arith,
      table_size c.args.values.now c.args.table.now c.requires.table,
      c.if-table-gt-MAX_EVENTS.false,
    );
    few_addresses = omega (
      arith,
      ap (λ (l : List ℕ). length l) c.init.ensures,
      c.if-init-gt-MAX_ADDRESSES.false,
    );
    addresses = c.has_addresses.ensures.0 c.if-has_addresses.true;
    sources = c.has_reads.ensures.0 test;
  },
  λ room. c.has_reads.ensures.1 room.sources,
)

pub returns-then-table-gt-MAX_EVENTS : goal.returns-then-table-gt-MAX_EVENTS
returns-then-table-gt-MAX_EVENTS c = (
  λ test. absurd (let clash : false ≡ true = test in cc),
  λ room. absurd (omega (
    arith,
    room.few_events,
    table_size c.args.values.now c.args.table.now c.requires.table,
    c.if-table-gt-MAX_EVENTS.true,
  )),
)
