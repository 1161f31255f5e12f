use Rattle.std.proofs.Common.{◌≡◌, ◌++◌, ◌∙◌, ℕ, List, ap, arith, refl, sym, subst, length}
use Rattle.verification.specs.Spelled.{Spells, pair_numbers}
use Rattle.verification.proofs.PairNumbers.{pairs_size}
use Rattle.verification.proofs.Spelling.{some_is}
use Rattle.verification.proofs.reading.cycle.Goals as goal

pub returns-then-len-size : goal.returns-then-len-size
returns-then-len-size c d later text few spelled is =
    let pairs = pair_numbers d (length d) in
    let read = c.number.ensures.only (length d) 10 text (omega (arith, few, c.requires)) refl is in
    let size : c.in-Some.size ≡ length d = some_is c.in-Some.size (length d) (sym c.in-Some.is ∙ read.0) in
    let got = c.in_ok-numbers.ensures pairs later (omega (arith, size, pairs_size d (length d)))
    (subst (Spells (pairs ++ later)) (sym read.1) spelled) in
    absurd (omega (
      arith,
      size,
      c.if-len-size.true,
      c.len.ensures,
      ap (λ (t : List ℕ). length t) got.0,
      pairs_size d (length d),
    ))

pub returns : goal.returns
returns c d later text few spelled is =
    let pairs = pair_numbers d (length d) in
    let read = c.number.ensures.only (length d) 10 text (omega (arith, few, c.requires)) refl is in
    let size : c.in-Some.size ≡ length d = some_is c.in-Some.size (length d) (sym c.in-Some.is ∙ read.0) in
    let got = c.in_ok-numbers.ensures pairs later (omega (arith, size, pairs_size d (length d)))
    (subst (Spells (pairs ++ later)) (sym read.1) spelled) in (
      c.in_ok-events.ensures d (sym size)
          (c.deref.ensures.value ∙ got.0 ∙ ap (λ (n : ℕ). pair_numbers d n) (sym size)),
      got.1,
    )
