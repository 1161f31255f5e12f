use Rattle.std.proofs.Common.{◌+◌, arith, slice_index, sym, subst, Option, ℕ}
use Rattle.std.proofs.lemmas.Bool.{iff_false}
use Rattle.order.proofs.Visible.{last_here, last_more, last_all, IsLastSoFar}
use Rattle.order.proofs.values.last_visible.Goals.{then-is_visible, else-is_visible}
use Rattle.order.proofs.values.last_visible.Goals as goal

pub loop-i-preserved : goal.loop-i-preserved
loop-i-preserved c = elim c.if-is_visible.branch [
  | then-is_visible w ↦ subst (λ (s : Option ℕ). IsLastSoFar c.args.recording.now c.args.order.now
      (slice_index c.args.order.now c.args.at) c.args.address (c.loop-i.i + 1) s) (sym w.last-is)
      (last_here c.args.recording.now c.args.order.now c.requires.total
      (slice_index c.args.order.now c.args.at) c.args.address c.loop-i.i (omega arith)
      (c.is_visible.ensures.0 w.if-is_visible.true))
  | else-is_visible w ↦ subst (λ (s : Option ℕ). IsLastSoFar c.args.recording.now c.args.order.now
      (slice_index c.args.order.now c.args.at) c.args.address (c.loop-i.i + 1) s) (sym w.last-is)
      (last_more c.args.recording.now c.args.order.now
      (slice_index c.args.order.now c.args.at) c.args.address c.loop-i.i (omega arith)
      (iff_false c.is_visible.ensures w.if-is_visible.false) c.loop-i.last c.loop-i.invariant)
]

pub returns : goal.returns
returns c = last_all c.args.recording.now c.args.order.now c.requires.total _ c.args.address c.loop-i.i
    (omega arith) c.loop-i.last c.loop-i.invariant
