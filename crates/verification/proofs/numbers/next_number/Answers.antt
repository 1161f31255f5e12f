use Rattle.std.proofs.Common.{◌≡◌, ◌++◌, ◌∷◌, ◌∙◌, ℕ, List, Some, ap, arith, sym}
use Rattle.texts.proofs.DigitLemmas.{first_digit}
use Rattle.verification.proofs.Spelling.{after_gap, some_is}
use Rattle.verification.proofs.numbers.next_number.Goals as goal

pub returns-in_default : goal.returns-in_default
returns-in_default c gap n b more none small other is =
    let first = first_digit n (b ∷ more) (omega (arith, small)) in
    let e = c.gap.ensures in
    let left = c.new.ensures ∙ after_gap c.rest-text.result.now gap first.1 c.gap.result first.0 none first.2
    (c.rest-text.ensures ∙ is ∙ ap (λ (t : List ℕ). gap ++ t) first.3) e.within e.before e.at ∙ sym first.3 in
    absurd (c.in_default.not-Some n (c.number.ensures.only n b more (omega (arith, small)) other left).0)

pub returns : goal.returns
returns c gap n b more none small other is =
    let first = first_digit n (b ∷ more) (omega (arith, small)) in
    let e = c.gap.ensures in
    let left = c.new.ensures ∙ after_gap c.rest-text.result.now gap first.1 c.gap.result first.0 none first.2
    (c.rest-text.ensures ∙ is ∙ ap (λ (t : List ℕ). gap ++ t) first.3) e.within e.before e.at ∙ sym first.3 in
    let read = c.number.ensures.only n b more (omega (arith, small)) other left in
    let same : c.in-Some.number ≡ n = some_is c.in-Some.number n (sym c.in-Some.is ∙ read.0) in
    (c.word.ensures (omega (arith, same, small)) ∙ ap (λ (m : ℕ). Some m) same, read.1)
