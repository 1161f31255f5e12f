use Rattle.std.proofs.Common.{◌≡◌, ◌<◌, ◌+◌, inl, inr, ℕ, List, get_or, set, length, arith, sym, subst, ap, ◌∙◌}
use Rattle.std.proofs.Common.{length-set, get_or-set_same, get_or-set_other}
use Rattle.std.proofs.lemmas.Bool.{cases_eq}
use Rattle.long.specs.Chains.{rest_from, times_kept}
use Rattle.long.proofs.Rests.{first_here, first_other, rest_less, rest_over}
use Rattle.long.proofs.open.put_seconds.Goals as goal

pub bounds-befores-second : goal.bounds-befores-second
bounds-befores-second c =
    let p = c.args.pairs.now in
    let v = c.link-second.result.0 in
    omega (
      arith,
      c.chain.invariant.size,
      c.requires.within v (omega (
        arith,
        c.chain.invariant.part v,
        first_here (rest_from p c.chain.head) (rest_from p c.link-second.result.1) v c.link-second.ensures.rest,
      )),
    )

pub chain-preserved : goal.chain-preserved
chain-preserved c =
    let p = c.args.pairs.now in
    let v = c.link-second.result.0 in
    let s : List ℕ = rest_from p c.chain.head in
    let r : List ℕ = rest_from p c.link-second.result.1 in
    let is = c.link-second.ensures.rest in
    let value : ℕ = c.args.event + 1 in
    let kept : 0 < times_kept p c.args.event v = omega (arith, c.chain.invariant.part v, first_here s r v is) in
    let low : v < length c.chain.befores = omega (arith, c.chain.invariant.size, c.requires.within v kept) in
    record {
      low = omega (arith, c.link-second.ensures.low, c.chain.invariant.low);
      size = length-set c.chain.befores v (c.args.event + 1) ∙ c.chain.invariant.size;
      part = λ f. omega (arith, rest_less s r v f is, c.chain.invariant.part f);
      here = λ f some. elim (cases_eq v f) [
        | inl one ↦ inr (subst (λ (k : ℕ). get_or (set c.chain.befores v (c.args.event + 1)) k 0 ≡ c.args.event + 1) one
            (get_or-set_same c.chain.befores v (c.args.event + 1) 0 low))
        | inr apart ↦ elim (c.chain.invariant.here f some) [
          | inl still ↦ inl (omega (arith, still, first_other s r v f is apart))
          | inr done ↦ inr (get_or-set_other c.chain.befores v f (c.args.event + 1) 0 (λ same. apart (sym same)) ∙ done)
        ]
      ];
      others = λ f none. get_or-set_other c.chain.befores v f (c.args.event + 1) 0
          (λ same. omega (arith, none, kept, ap (λ (k : ℕ). times_kept p c.args.event k) same))
          ∙ c.chain.invariant.others f none;
    }

pub returns-clause-here : goal.returns-clause-here
returns-clause-here c = λ f some. elim (c.chain.invariant.here f some) [
  | inl still ↦ absurd (omega (
    arith,
    still,
    rest_over c.args.pairs.now c.chain.head f (omega (arith, c.chain-test.false)),
  ))
  | inr done ↦ done
]
