use Rattle.std.proofs.Common.{◌≡◌, ◌<◌, ◌*◌, ◌-◌, ◌++◌, ◌∷◌, [], ◌∙◌, ℕ, List, ap, arith, sym, get_or, length}
use Rattle.std.proofs.lemmas.List.{take_more}
use Rattle.verification.specs.Spelled.{pair_numbers}
use Rattle.verification.proofs.PairNumbers.{event_at}
use Rattle.verification.proofs.reading.events_of.Goals as goal

pub loop-i-preserved : goal.loop-i-preserved
loop-i-preserved c d size is =
    let i = c.loop-i.i in
    let low : i < length d = omega (arith, size, c.loop-i-test.true) in
    let place : c.saturating_sub.result ≡ 2 * i - 1 = omega (arith, c.saturating_sub.ensures) in
    let same : get_or c.args.numbers.now c.saturating_sub.result 0 ≡ get_or d i 0 =
    ap (λ (k : ℕ). get_or c.args.numbers.now k 0) place
    ∙ ap (λ (t : List ℕ). get_or t (2 * i - 1) 0) (is ∙ ap (λ (n : ℕ). pair_numbers d n) (sym size))
    ∙ event_at d i low in
    c.in_ok-push.ensures.items
    ∙ ap (λ (n : ℕ). c.loop-i.events.items ++ n ∷ []) same
    ∙ ap (λ (xs : List ℕ). xs ++ get_or d i 0 ∷ []) (c.loop-i.invariant d size is) ∙ sym (take_more d i 0 low)
