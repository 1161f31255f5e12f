use Rattle.std.proofs.Common.{◌∙◌, ◌++◌, ◌∷◌, [], get_or, ℕ, List, arith, ap, sym}
use Rattle.std.proofs.lemmas.List.{take_all}
use Rattle.recording.specs.PlaceLaws.{times_at}
use Rattle.completion.specs.Performed.{writers}
use Rattle.completion.proofs.Alone.{table_size}
use Rattle.completion.proofs.OrderLists.{writers_by, writers_on}
use Rattle.completion.proofs.writing.write_list.Goals as goal
use Rattle.completion.proofs.writing.write_list.Goals.{then-writes+in_ok-push, else-writes}

pub writes-requires-clause-there : goal.writes-requires-clause-there
writes-requires-clause-there c = omega (
  arith,
  c.requires.events _ (times_at c.args.order.now c.loop-number.number-index c.loop-number-test.true),
  table_size c.args.values.now c.args.table.now c.requires.table,
)

pub loop-number-preserved : goal.loop-number-preserved
loop-number-preserved c =
    let v = c.args.values.now in
    let i : ℕ = c.loop-number.number-index in
    elim c.if-writes.branch [
      | then-writes+in_ok-push w ↦
          ap (λ z. z.items) w.list-is ∙ (w.in_ok-push.ensures.items
          ∙ (ap (λ (l : List ℕ). l ++ get_or c.args.order.now i 0 ∷ []) c.loop-number.invariant
          ∙ sym (writers_on v c.args.address i 0 c.args.order.now c.loop-number-test.true
          (sym c.writes.ensures ∙ w.if-writes.true))))
      | else-writes w ↦
          ap (λ z. z.items) w.list-is ∙ (c.loop-number.invariant
          ∙ sym (writers_by v c.args.address i 0 c.args.order.now c.loop-number-test.true
          (sym c.writes.ensures ∙ w.if-writes.false)))
    ]

pub returns : goal.returns
returns c =
    c.loop-number.invariant ∙ ap (writers c.args.values.now c.args.address)
    (take_all c.loop-number.number-index c.args.order.now c.loop-number-test.false)
