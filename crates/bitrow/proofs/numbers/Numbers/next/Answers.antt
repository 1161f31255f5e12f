use Rattle.std.proofs.Common.{◌+◌, ◌*◌, Some, None, arith, refl, subst, ℕ, w64}
use Rattle.std.specs.Int.{trailing_zeros}
use Rattle.bitrow.specs.Walks.{IsRest}
use Rattle.bitrow.proofs.Rests.{lowest, rest_next, rest_after, rest_none, rest_of_word, lowest_of_word, some_bit}
use Rattle.bitrow.proofs.Members.{row_next, bit_below}
use Rattle.bitrow.proofs.numbers.Numbers.next.Goals as goal

pub overflow_add-self : goal.overflow_add-self
overflow_add-self c =
    let s = c.self.inside in
    omega (
      arith,
      c.self.invariant.0.counted,
      bit_below s.words.now s.len (64 * s.at + trailing_zeros w64 s.rest)
          c.self.invariant.0.clear
          (rest_next s.words.now s.at s.rest s.from c.self.invariant.1 c.if-self-ne0.true (omega arith)).1,
    )

pub without_lowest-self-inside-requires-2 : goal.without_lowest-self-inside-requires-2
without_lowest-self-inside-requires-2 c = some_bit c.self.inside.words.now c.in_ok-number.number
    c.in_ok-number.ensures.1

pub invariant_of-self : goal.invariant_of-self
invariant_of-self c =
    let s = c.self.inside in
    let low = lowest s.rest c.if-self-ne0.true (omega arith) in
    let after = c.without_lowest-self-inside.ensures.bits _ low.1 low.2 in (
      c.self.invariant.0,
      rest_after s.words.now s.at s.rest s.from _ c.without_lowest-self-inside.result
          c.self.invariant.1 low.0 low.1 low.2 after.0 (λ i _ other. after.1 i other),
    )

pub returns-then-self-ne0-clause-found : goal.returns-then-self-ne0-clause-found
returns-then-self-ne0-clause-found c =
    let s = c.self.inside in
    rw (← c.self.view_is) (row_next s.words.now s.len _ s.from (Some (64 * s.at + trailing_zeros w64 s.rest)) refl
    c.self.invariant.0.clear
    (rest_next s.words.now s.at s.rest s.from c.self.invariant.1 c.if-self-ne0.true (omega arith)))

pub returns-in_err-number-clause-found : goal.returns-in_err-number-clause-found
returns-in_err-number-clause-found c =
    let s = c.self.inside in
    rw (c.from_residual.ensures, ← c.self.view_is)
    (row_next s.words.now s.len _ s.from None refl c.self.invariant.0.clear
    (rest_none s.words.now s.at s.from None
    (subst (λ (r : ℕ). IsRest s.words.now s.at r s.from) c.if-self-ne0.false c.self.invariant.1)
    c.in_err-number.ensures))

pub invariant_of-self-2 : goal.invariant_of-self-2
invariant_of-self-2 c =
    let s = c.self.inside in
    let low = lowest_of_word s.words.now (s.at + 1) c.in_ok-number.number c.in_ok-number.ensures in (
      c.self.invariant.0,
      rest_of_word s.words.now (s.at + 1) c.in_ok-number.number c.without_lowest-self-inside-2.result
          c.in_ok-number.ensures (c.without_lowest-self-inside-2.ensures.bits _ low.0 low.1),
    )

pub returns-clause-found : goal.returns-clause-found
returns-clause-found c =
    let s = c.self.inside in
    rw (← c.self.view_is) (row_next s.words.now s.len _ s.from (Some c.in_ok-number.number) refl
    c.self.invariant.0.clear
    (rest_none s.words.now s.at s.from (Some c.in_ok-number.number)
    (subst (λ (r : ℕ). IsRest s.words.now s.at r s.from) c.if-self-ne0.false c.self.invariant.1)
    c.in_ok-number.ensures))
