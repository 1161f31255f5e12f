use Rattle.std.proofs.Common.{◌≡◌, ◌∷◌, ◌+◌, ◌*◌, ◌∙◌, ℕ, List, [], Some, ap, arith, refl, sym, decimal, ◌++◌}
use Rattle.std.proofs.lemmas.List.{append-nil}
use Rattle.texts.proofs.DigitLemmas.{digit_more, done, first_digit, least, one_digit, start, step, zero}
use Rattle.texts.proofs.cursor.Cursor.number.Goals as goal

pub returns-in_default-clause-only : goal.returns-in_default-clause-only
returns-in_default-clause-only c n b more small other is =
    let first = first_digit n (b ∷ more) small in
    absurd (c.in_default.ensures.only first.0 first.1 first.2 (is ∙ first.3) refl)

pub returns-in_default-clause-last : goal.returns-in_default-clause-last
returns-in_default-clause-last c n small is =
    let first = first_digit n [] small in
    absurd (c.in_default.ensures.only first.0 first.1 first.2
    (is ∙ sym (append-nil (decimal n)) ∙ first.3) refl)

pub returns-then-first-eq0-clause-found : goal.returns-then-first-eq0-clause-found
returns-then-first-eq0-clause-found c =
    one_digit c.args.self.now c.in-Some.first c.digit.new.self c.in-Some.ensures.found
    ∙ ap (λ (m : ℕ). decimal m ++ c.digit.new.self) c.if-first-eq0.true

pub returns-then-first-eq0-clause-only : goal.returns-then-first-eq0-clause-only
returns-then-first-eq0-clause-only c n b more small other is =
    let both = zero c.args.self.now n c.digit.new.self (b ∷ more)
    (c.in-Some.ensures.found.1 ∙ ap (λ (d : ℕ). (48 + d) ∷ c.digit.new.self) c.if-first-eq0.true) small is in
    (ap (λ (m : ℕ). Some m) both.0, both.1)

pub returns-then-first-eq0-clause-last : goal.returns-then-first-eq0-clause-last
returns-then-first-eq0-clause-last c n small is =
    let both = zero c.args.self.now n c.digit.new.self []
    (c.in-Some.ensures.found.1 ∙ ap (λ (d : ℕ). (48 + d) ∷ c.digit.new.self) c.if-first-eq0.true) small
    (is ∙ sym (append-nil (decimal n))) in
    (ap (λ (m : ℕ). Some m) both.0, both.1)

pub digits-init : goal.digits-init
digits-init c = (
  omega (arith, c.if-first-eq0.false),
  one_digit c.args.self.now c.in-Some.first c.digit.new.self c.in-Some.ensures.found,
  λ m more small other is. start c.args.self.now c.in-Some.first m c.digit.new.self more
      c.in-Some.ensures.found.1 small is,
)

pub returns-in_default-digit-clause-only : goal.returns-in_default-digit-clause-only
returns-in_default-digit-clause-only c n b more small other is =
    let kept = c.in_default-digit.ensures.kept refl in
    let both = done c.digits.n n c.digits.self (b ∷ more)
    (λ d t digit here. c.in_default-digit.ensures.only d t digit here refl)
    (c.digits.invariant.2 n (b ∷ more) small other is) in
    (ap (λ (m : ℕ). Some m) both.0, kept ∙ both.1)

pub returns-in_default-digit-clause-last : goal.returns-in_default-digit-clause-last
returns-in_default-digit-clause-last c n small is =
    let kept = c.in_default-digit.ensures.kept refl in
    let both = done c.digits.n n c.digits.self []
    (λ d t digit here. c.in_default-digit.ensures.only d t digit here refl)
    (c.digits.invariant.2 n [] small tt (is ∙ sym (append-nil (decimal n)))) in
    (ap (λ (m : ℕ). Some m) both.0, kept ∙ both.1)

pub returns-in_default-with_digit-clause-only : goal.returns-in_default-with_digit-clause-only
returns-in_default-with_digit-clause-only c n b more small other is =
    let found = c.in-Some-digit.ensures.found in
    let most = least _ n c.digit-in-digits.new.self (b ∷ more)
    (step c.digits.n c.in-Some-digit.digit n c.digits.self c.digit-in-digits.new.self (b ∷ more) found.0 found.1 other
    (c.digits.invariant.2 n (b ∷ more) small other is)) in
    absurd (omega (arith, most, small, c.in_default-with_digit.ensures.only refl))

pub returns-in_default-with_digit-clause-last : goal.returns-in_default-with_digit-clause-last
returns-in_default-with_digit-clause-last c n small is =
    let found = c.in-Some-digit.ensures.found in
    let most = least _ n c.digit-in-digits.new.self []
    (step c.digits.n c.in-Some-digit.digit n c.digits.self c.digit-in-digits.new.self [] found.0 found.1 tt
    (c.digits.invariant.2 n [] small tt (is ∙ sym (append-nil (decimal n))))) in
    absurd (omega (arith, most, small, c.in_default-with_digit.ensures.only refl))

pub digits-preserved : goal.digits-preserved
digits-preserved c =
    let h = c.digits.invariant in
    let found = c.in-Some-digit.ensures.found in
    let next : c.in-Some-with_digit.next ≡ c.digits.n * 10 + c.in-Some-digit.digit =
    c.in-Some-with_digit.ensures.found in (
      omega (arith, next, h.0),
      h.1 ∙ ap (λ (t : List ℕ). decimal c.digits.n ++ t) found.1
          ∙ digit_more c.digits.n c.in-Some-digit.digit c.digit-in-digits.new.self h.0 (omega (arith, next)) found.0
          ∙ ap (λ (m : ℕ). decimal m ++ c.digit-in-digits.new.self) (sym next),
      λ m more small other is. rw next (step c.digits.n c.in-Some-digit.digit m c.digits.self
          c.digit-in-digits.new.self more found.0 found.1 other (h.2 m more small other is)),
    )
