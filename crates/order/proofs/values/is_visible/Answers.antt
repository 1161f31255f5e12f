use Rattle.std.proofs.Common.{inl, inr, arith}
use Rattle.std.proofs.lemmas.Bool.{lt-ltb}
use Rattle.order.proofs.Visible.{visible_at, earlier_or_own}
use Rattle.order.proofs.values.is_visible.Goals as goal

pub returns-then-i-at-2 : goal.returns-then-i-at-2
returns-then-i-at-2 c = (
  λ before. visible_at c.args.recording.now c.args.order.now c.requires.total c.args.at c.args.address
      c.args.i c.requires.read c.requires.write
      (c.writes_to.ensures.0 c.if-not-writes_to.false) c.if-i-at.false (inl c.if-i-at-2.true),
  λ seen. lt-ltb c.args.i c.args.at c.if-i-at-2.true,
)

pub returns-else-i-at-2 : goal.returns-else-i-at-2
returns-else-i-at-2 c = (
  λ own. visible_at c.args.recording.now c.args.order.now c.requires.total c.args.at c.args.address c.args.i
      c.requires.read c.requires.write
      (c.writes_to.ensures.0 c.if-not-writes_to.false) c.if-i-at.false (inr (c.precedes.ensures.0 own)),
  λ seen. elim (earlier_or_own c.args.recording.now c.args.order.now c.requires.total c.args.at c.args.address
      c.args.i c.requires.read c.requires.write seen) [
        | inl before ↦ absurd (omega arith)
        | inr own ↦ c.precedes.ensures.1 own
      ],
)
