use Rattle.std.proofs.Common.{◌≡◌, ◌++◌, ◌+◌, ℕ, List, suc, get_or, arith, ap, refl, subst, ◌∙◌}
use Rattle.std.proofs.lemmas.List.{append_assoc}
use Rattle.verdicts.specs.VerdictText.{IsPairLine, ArePairLines}
use Rattle.verdicts.proofs.cycle.put_pairs.Goals as goal

pub put_pair-requires : goal.put_pair-requires
put_pair-requires c = c.next_in_cycle.ensures.forced c.args.places.now c.requires

pub loop-i-preserved : goal.loop-i-preserved
loop-i-preserved c =
    let x = c.args.places.now in
    let cycle = c.args.cycle.now in
    let i = c.loop-i.i in
    let h = c.loop-i.invariant in
    let p = c.in_ok-put_pair.ensures in
    let next : suc i ≡ i + 1 = omega arith in
    let line = subst (λ (n : ℕ). IsPairLine x (get_or cycle i 0) n p.0) c.next_in_cycle.ensures.value p.1 in (
      h.0 ++ p.0,
      subst (λ (n : ℕ). ArePairLines x cycle n (h.0 ++ p.0)) next (h.0, p.0, h.1, line, refl),
      p.2 ∙ ap (λ (front : List ℕ). front ++ p.0) h.2 ∙ append_assoc c.args.out.now.items h.0 p.0,
    )
