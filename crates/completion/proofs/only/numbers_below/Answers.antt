use Rattle.std.proofs.Common.{◌<◌, ◌+◌, List, ℕ, sym, subst}
use Rattle.recording.specs.Order.{Enumerates}
use Rattle.completion.proofs.OrderLists.{numbers_more, numbers_none}
use Rattle.completion.proofs.only.numbers_below.Goals as goal

pub loop-number-init : goal.loop-number-init
loop-number-init c = subst (λ (l : List ℕ). Enumerates (λ e. e < 0) l) (sym c.new-numbers.ensures.items) numbers_none

pub loop-number-preserved : goal.loop-number-preserved
loop-number-preserved c = subst (λ (l : List ℕ). Enumerates (λ e. e < c.loop-number.number + 1) l)
    (sym c.in_ok-push.ensures.items) (numbers_more c.loop-number.number c.loop-number.numbers.items c.loop-number.invariant)
