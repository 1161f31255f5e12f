use Rattle.std.proofs.Common.{◌∙◌, ℕ, List, take, arith, ap, sym}
use Rattle.std.proofs.lemmas.List.{take_all}
use Rattle.recording.specs.PlaceLaws.{times_at}
use Rattle.completion.specs.Performed.{last_of, writers}
use Rattle.completion.proofs.Alone.{table_size}
use Rattle.completion.proofs.OrderLists.{last_push, writers_by, writers_on}
use Rattle.completion.proofs.writing.last_write.Goals as goal
use Rattle.completion.proofs.writing.last_write.Goals.{then-writes, else-writes}

pub writes-requires-clause-there : goal.writes-requires-clause-there
writes-requires-clause-there c = omega (
  arith,
  c.requires.events _ (times_at c.args.order.now c.loop-number.number-index c.loop-number-test.true),
  table_size c.args.values.now c.args.table.now c.requires.table,
)

pub loop-number-preserved : goal.loop-number-preserved
loop-number-preserved c =
    let v = c.args.values.now in
    let i : ℕ = c.loop-number.number-index in
    elim c.if-writes.branch [
      | then-writes w ↦
          w.last-is ∙ sym (ap last_of (writers_on v c.args.address i 0 c.args.order.now c.loop-number-test.true
          (sym c.writes.ensures ∙ w.if-writes.true)) ∙ last_push (writers v c.args.address (take i c.args.order.now)) _)
      | else-writes w ↦
          w.last-is ∙ (c.loop-number.invariant ∙ sym (ap last_of
          (writers_by v c.args.address i 0 c.args.order.now c.loop-number-test.true
          (sym c.writes.ensures ∙ w.if-writes.false))))
    ]

pub returns : goal.returns
returns c =
    c.loop-number.invariant ∙ ap (λ (l : List ℕ). last_of (writers c.args.values.now c.args.address l))
    (take_all c.loop-number.number-index c.args.order.now c.loop-number-test.false)
