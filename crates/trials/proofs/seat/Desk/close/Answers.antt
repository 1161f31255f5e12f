use Rattle.std.proofs.Common.{◌≡◌, ◌∙◌, ◌∷◌, [], ℕ, List, sym, ap, subst, length, length-append, arith}
use Rattle.trials.specs.Looking.{LoadsWord}
use Rattle.trials.proofs.Closing.{ReadSoFar, grown_loads, one_more, closing}
use Rattle.trials.proofs.seat.Desk.close.Goals as goal

pub loop-k-preserved : goal.loop-k-preserved
loop-k-preserved c =
    let v = c.args.seat.seat.me.0 in
    let w = c.loop-k.seat.seat.me.0 in
    let x = c.word_at.new.seat.seat.me.0 in
    let inv = c.loop-k.invariant in
    let items = c.in_ok-push.ensures.items in
    let ws = c.loop-k.words.items in
    let says = subst (λ (k : ℕ). LoadsWord w k c.word_at.result x) (sym inv.0) c.word_at.ensures.says in (
      ap (λ (xs : List ℕ). length xs) items ∙ omega (arith, inv.0, length-append ws (c.word_at.result ∷ [])),
      grown_loads v w x (length ws) c.word_at.result inv.1 says,
      subst (ReadSoFar v) (sym items) (one_more v w x ws c.word_at.result inv.1 says inv.2),
    )

pub returns : goal.returns
returns c =
    let h = c.args.seat in
    let inv = c.loop-k.invariant in
    let count = c.word_count-count.ensures ∙ ap (λ b. b.shared.table_id.words) c.deref.ensures ∙ h.size in
    let size : length c.loop-k.words.items ≡ h.seat.me.0.campaign.trials =
    omega (arith, inv.0, count, c.loop-k-test.false, c.loop-k.auto.k-end) in
    closing h.seat.me.0 c.loop-k.words.items size (omega (arith, size, h.some)) inv.2 h.live
