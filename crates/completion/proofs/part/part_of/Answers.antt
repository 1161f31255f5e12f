use Rattle.std.proofs.Common.{inl, inr, arith}
use Rattle.completion.proofs.Alone.{table_size}
use Rattle.completion.proofs.Fed.{row_below}
use Rattle.completion.proofs.Whole.{whole_allowed}
use Rattle.completion.proofs.part.part_of.Goals as goal

pub returns-then-len-gt-MAX_EVENTS : goal.returns-then-len-gt-MAX_EVENTS
returns-then-len-gt-MAX_EVENTS c = inr (inl (omega (
  arith,
  table_size c.args.values.now c.in_ok-table.table.items c.in_ok-table.ensures,
  c.len.ensures,
  c.if-len-gt-MAX_EVENTS.true,
)))

pub returns-in-Allowed : goal.returns-in-Allowed
returns-in-Allowed c =
    let size = table_size c.args.values.now c.in_ok-table.table.items c.in_ok-table.ensures in
    inl (λ rules. whole_allowed c.args.values.now c.in_ok-row.row rules
    (λ e h. c.in_ok-row.ensures.all e (omega (arith, h, size, c.len-2.ensures)))
    (λ e h. omega (arith, row_below c.in_ok-row.row e h, c.in_ok-row.ensures.size, size, c.len-2.ensures))
    (rw c.in-Allowed.is at c.in_ok-whole.ensures))
