use Rattle.std.proofs.Common.{◌≡◌, ◌∙◌, ◌+◌, ◌-◌, ℕ, ap, arith, get_or, subst, sym}
use Rattle.std.proofs.lemmas.List.{get_or_default}
use Rattle.ledger.specs.Ordered.{IsSeam}
use Rattle.ledger.specs.Sections.{Section, end_of}
use Rattle.ledger.proofs.joined.missing.Goals as goal

pub overflow_add-missing : goal.overflow_add-missing
overflow_add-missing c =
    let d = c.index-order-i-in-loop-i.result in
    omega (
      arith,
      c.loop-i.invariant.count d,
      ap (λ s. end_of s) c.index-order-i-in-loop-i.is,
      c.in-Ok.ensures.ok.1,
      c.sound.ensures.header.first,
    )

pub returns-in-Err-clause-err : goal.returns-in-Err-clause-err
returns-in-Err-clause-err c =
    let i = c.loop-i.i in
    let order = c.args.order.now in
    let at : i - 1 + 1 ≡ i = omega (arith, c.loop-i.invariant.begun) in record {
      place = i - 1;
      within = omega (arith, at, c.loop-i-test.true);
      seam = λ d.
          let one : get_or order (i - 1) d ≡ c.index-order-i-in-loop-i.result =
          get_or_default order (i - 1) d c.index-order-i-in-loop-i.result (omega (arith, c.loop-i-test.true))
          ∙ sym c.index-order-i-in-loop-i.is in
          let next : get_or order (i - 1 + 1) d ≡ c.index-order-i.result =
          ap (λ (k : ℕ). get_or order k d) at
          ∙ get_or_default order i d c.index-order-i.result (omega (arith, c.loop-i-test.true))
          ∙ sym c.index-order-i.is in
          subst (λ (s : Section). IsSeam s (get_or order (i - 1 + 1) d) c.in-Err.error) (sym one)
          (subst (λ (s : Section). IsSeam c.index-order-i-in-loop-i.result s c.in-Err.error) (sym next) c.in-Err.ensures.err);
    }
