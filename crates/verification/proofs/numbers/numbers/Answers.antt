use Rattle.std.proofs.Common.{◌≡◌, ◌<◌, ◌+◌, ◌++◌, ◌∷◌, [], ◌∙◌, ℕ, List, ap, arith, subst, sym, drop, get_or}
use Rattle.std.proofs.Common.{length, take}
use Rattle.std.proofs.lemmas.List.{take_more}
use Rattle.verification.specs.Spelled.{Spells}
use Rattle.verification.proofs.Spelling.{some_is, spelled_next}
use Rattle.verification.proofs.numbers.numbers.Goals as goal

pub returns-in_default : goal.returns-in_default
returns-in_default c ns later size is =
    let i = c.loop-i._i in
    let low : i < length ns = omega (arith, size, c.loop-i-test.true) in
    let left = c.loop-i.invariant ns later size is in
    let h = spelled_next ns later c.loop-i.rest i low left.1 in
    absurd (c.in_default.not-Some (get_or ns i 0)
    (c.next_number.ensures h.0 (get_or ns i 0) h.1 h.2 h.3 h.4 h.5 h.7).0)

pub loop-i-preserved : goal.loop-i-preserved
loop-i-preserved c ns later size is =
    let i = c.loop-i._i in
    let low : i < length ns = omega (arith, size, c.loop-i-test.true) in
    let left = c.loop-i.invariant ns later size is in
    let h = spelled_next ns later c.loop-i.rest i low left.1 in
    let read = c.next_number.ensures h.0 (get_or ns i 0) h.1 h.2 h.3 h.4 h.5 h.7 in
    let same : c.in-Some.number ≡ get_or ns i 0 =
    some_is c.in-Some.number (get_or ns i 0) (sym c.in-Some.is ∙ read.0) in (
      c.in_ok-push.ensures.items ∙ ap (λ (xs : List ℕ). xs ++ c.in-Some.number ∷ []) left.0
          ∙ ap (λ (n : ℕ). take i ns ++ n ∷ []) same ∙ sym (take_more ns i 0 low),
      subst (Spells (drop (i + 1) ns ++ later)) (sym read.1) h.6,
    )
