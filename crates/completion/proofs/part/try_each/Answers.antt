use Rattle.std.proofs.Common.{◌≡◌, true, false, length, arith, sym, ◌∙◌}
use Rattle.completion.proofs.Alone.{table_size}
use Rattle.completion.proofs.Fed.{needed_more, tried_needed}
use Rattle.completion.proofs.MemberCounts.{tried_less}
use Rattle.completion.proofs.part.try_each.Goals as goal
use Rattle.completion.proofs.part.try_each.Goals.{then-test+in_ok-row+in_ok-tried+else-not-is_allowed+in-Less-1}
use Rattle.completion.proofs.part.try_each.Goals.{then-test+in_ok-row+in_ok-tried+else-not-is_allowed+in-Allowed-1}
use Rattle.completion.proofs.part.try_each.Goals.{else-test}

pub test-requires : goal.test-requires
test-requires c = omega (
  arith,
  c.loop-e-test.true,
  c.requires.left.size,
  table_size c.args.values.now c.args.table.now c.requires.table,
)

pub without_event-requires-clause-size : goal.without_event-requires-clause-size
without_event-requires-clause-size c =
    c.requires.left.size ∙ sym (table_size c.args.values.now c.args.table.now c.requires.table)

pub loop-e-preserved : goal.loop-e-preserved
loop-e-preserved c = needed_more c.args.values.now c.args.left.now c.loop-e.e c.loop-e.invariant (λ inside.
    elim c.if-test.branch [
      | then-test+in_ok-row+in_ok-tried+else-not-is_allowed+in-Less-1 w ↦
          tried_needed c.args.values.now c.args.left.now c.loop-e.e w.in_ok-row.row c.args.limit w.in_ok-tried.tried
          c.requires.left w.in_ok-row.ensures.numbers (w.is_allowed.ensures.holds w.if-not-is_allowed.false)
          w.in_ok-tried.ensures
      | then-test+in_ok-row+in_ok-tried+else-not-is_allowed+in-Allowed-1 w ↦
          tried_needed c.args.values.now c.args.left.now c.loop-e.e w.in_ok-row.row c.args.limit w.in_ok-tried.tried
          c.requires.left w.in_ok-row.ensures.numbers (w.is_allowed.ensures.holds w.if-not-is_allowed.false)
          w.in_ok-tried.ensures
      | else-test w ↦ absurd (let clash : false ≡ true = sym w.if-test.false ∙ (c.test.ensures ∙ inside) in cc)
    ])

pub returns-then-not-is_allowed : goal.returns-then-not-is_allowed
returns-then-not-is_allowed c = tried_less c.args.values.now c.args.left.now (length c.args.table.now) c.args.limit
    c.loop-e.e c.in_ok-row.row c.in_ok-tried.tried (c.is_allowed.ensures.fails c.if-not-is_allowed.true)
    (c.in_ok-row.ensures.size ∙ (table_size c.args.values.now c.args.table.now c.requires.table
    ∙ sym c.requires.left.size)) c.in_ok-row.ensures.numbers (sym c.test.ensures ∙ c.if-test.true)
    c.in_ok-tried.ensures
