use Rattle.std.proofs.Common.{◌≡◌, ◌<◌, ◌+◌, ◌-◌, inl, inr, ℕ, List, get_or, set, length, arith, sym, subst, ap, ◌∙◌}
use Rattle.std.proofs.Common.{length-set, get_or-set_same, get_or-set_other}
use Rattle.std.proofs.lemmas.Bool.{cases_eq}
use Rattle.recording.specs.Order.{times}
use Rattle.long.specs.Chains.{rest_from, times_kept}
use Rattle.long.proofs.Rests.{first_here, first_other, rest_less, rest_over}
use Rattle.long.proofs.waiting.Waiting.place.Goals as goal

pub lower-requires-clause-event : goal.lower-requires-clause-event
lower-requires-clause-event c =
    let p = c.args.pairs.now in
    let v = c.link-second.result.0 in
    omega (
      arith,
      c.chain.invariant.size,
      c.requires.within v (omega (
        arith,
        c.chain.invariant.part v,
        first_here (rest_from p c.chain.head) (rest_from p c.link-second.result.1) v c.link-second.ensures.rest,
      )),
    )

pub lower-requires-clause-open : goal.lower-requires-clause-open
lower-requires-clause-open c =
    let p = c.args.pairs.now in
    let v = c.link-second.result.0 in
    let here = first_here (rest_from p c.chain.head) (rest_from p c.link-second.result.1) v c.link-second.ensures.rest in
    let kept : 0 < times_kept p c.args.event v = omega (arith, c.chain.invariant.part v, here) in
    omega (arith, here, c.chain.invariant.counts v, c.requires.open v kept)

pub chain-preserved : goal.chain-preserved
chain-preserved c =
    let p = c.args.pairs.now in
    let v = c.link-second.result.0 in
    let s : List ℕ = rest_from p c.chain.head in
    let r : List ℕ = rest_from p c.link-second.result.1 in
    let is = c.link-second.ensures.rest in
    let old = c.chain.self in
    let new : c.lower.new.self ≡ set old v (get_or old v 0 - 1) = c.in_ok-lower.ensures in
    let kept : 0 < times_kept p c.args.event v = omega (arith, c.chain.invariant.part v, first_here s r v is) in
    let low : v < length old = omega (arith, c.chain.invariant.size, c.requires.within v kept) in
    record {
      low = omega (arith, c.link-second.ensures.low, c.chain.invariant.low);
      size = ap (λ (l : List ℕ). length l) new ∙ length-set old v (get_or old v 0 - 1) ∙ c.chain.invariant.size;
      part = λ f. omega (arith, rest_less s r v f is, c.chain.invariant.part f);
      counts = λ f. elim (cases_eq v f) [
        | inl one ↦ subst (λ (k : ℕ). get_or c.lower.new.self k 0 + times_kept p c.args.event k
            ≡ get_or c.args.self.now k 0 + times r k) one (omega (
              arith,
              ap (λ (l : List ℕ). get_or l v 0) new,
              get_or-set_same old v (get_or old v 0 - 1) 0 low,
              c.chain.invariant.counts v,
              c.requires.open v kept,
              first_here s r v is,
            ))
        | inr apart ↦ omega (
          arith,
          ap (λ (l : List ℕ). get_or l f 0) new,
          get_or-set_other old v f (get_or old v 0 - 1) 0 (λ same. apart (sym same)),
          c.chain.invariant.counts f,
          first_other s r v f is apart,
        )
      ];
    }

pub returns-clause-fewer : goal.returns-clause-fewer
returns-clause-fewer c = λ f. omega (
  arith,
  c.chain.invariant.counts f,
  rest_over c.args.pairs.now c.chain.head f (omega (arith, c.chain-test.false)),
)
