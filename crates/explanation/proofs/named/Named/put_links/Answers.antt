use Rattle.std.proofs.Common.{◌≡◌, ◌++◌, ◌+◌, ℕ, List, Some, suc, get_or, arith, ap, refl, sym, subst, ◌∙◌}
use Rattle.std.proofs.lemmas.List.{append_assoc}
use Rattle.recording.specs.Execution.{Execution}
use Rattle.relations.specs.Forced.{Forced, IsReason}
use Rattle.explanation.specs.Cycle.{IsLink, AreLinks}
use Rattle.explanation.proofs.named.Named.put_links.Goals as goal

pub forced_reason-reason-requires : goal.forced_reason-reason-requires
forced_reason-reason-requires c =
    let i = c.loop-i.i in
    subst (λ (x : Execution). Forced x (get_or c.args.cycle.now i 0) c.next_in_cycle-second.result)
    (sym c.requires.places)
    (c.next_in_cycle-second.ensures.forced c.args.self.now.recording.now c.requires.cycle)

pub put_link-requires : goal.put_link-requires
put_link-requires c =
    let i = c.loop-i.i in
    subst (λ (x : Execution). IsReason x (get_or c.args.cycle.now i 0) c.next_in_cycle-second.result
    (Some c.forced_reason-reason.result)) c.requires.places c.forced_reason-reason.ensures

pub loop-i-preserved : goal.loop-i-preserved
loop-i-preserved c =
    let x = c.args.self.now.recording.now in
    let names = c.args.self.now.names.now in
    let cycle = c.args.cycle.now in
    let i = c.loop-i.i in
    let h = c.loop-i.invariant in
    let p = c.in_ok-put_link.ensures in
    let next : suc i ≡ i + 1 = omega arith in
    let link = subst (λ (n : ℕ). IsLink x names (get_or cycle i 0) n p.0) c.next_in_cycle-second.ensures.value p.1 in (
      h.0 ++ p.0,
      subst (λ (n : ℕ). AreLinks x names cycle n (h.0 ++ p.0)) next (h.0, p.0, h.1, link, refl),
      p.2 ∙ ap (λ (front : List ℕ). front ++ p.0) h.2 ∙ append_assoc c.args.out.now.items h.0 p.0,
    )
