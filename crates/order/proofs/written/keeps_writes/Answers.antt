use Rattle.std.proofs.Common.{false, true, refl, ◌≡◌, inl, inr, ℕ, arith, sym, subst}
use Rattle.std.proofs.lemmas.Bool.{cases_eq, cases_lt}
use Rattle.recording.specs.Order.{Before}
use Rattle.recording.specs.Execution.{write_list}
use Rattle.order.proofs.Enumerated.{past_lists}
use Rattle.order.proofs.written.keeps_writes.Goals as goal

pub returns-then-not-keeps_list : goal.returns-then-not-keeps_list
returns-then-not-keeps_list c = (
  λ wrong. absurd (let no : false ≡ true = wrong in cc),
  λ stand. c.if-not-keeps_list.ensures.1 (λ e f b. stand c.loop-address.address e f
      (rw (sym c.write_list.ensures) b)),
)

pub loop-address-preserved : goal.loop-address-preserved
loop-address-preserved c = λ a e f h b. elim (cases_eq a c.loop-address.address) [
  | inl one ↦ c.if-not-keeps_list.ensures.0 refl e f
      (rw c.write_list.ensures (subst (λ (v : ℕ). Before (write_list c.args.recording.now v) e f) one b))
  | inr other ↦ c.loop-address.invariant a e f (omega arith) b
]

pub returns : goal.returns
returns c = (
  λ _ a e f b. elim (cases_lt a c.loop-address.address) [
    | inl before ↦ c.loop-address.invariant a e f before b
    | inr past ↦ absurd (past_lists c.args.recording.now a e f (omega arith) b)
  ],
  λ _. refl,
)
