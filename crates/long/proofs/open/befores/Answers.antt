use Rattle.std.proofs.Common.{◌≡◌, ◌+◌, ℕ, List, get_or, length, arith, sym, subst, ap, ◌∙◌}
use Rattle.std.proofs.lemmas.List.{with_items_is}
use Rattle.long.specs.Chains.{times_kept}
use Rattle.long.proofs.Befores.{AreBeforeBelow, before_none, before_still, before_more, before_all}
use Rattle.long.proofs.open.befores.Goals.{then-counts-event-gt0, else-counts-event-gt0}
use Rattle.long.proofs.open.befores.Goals as goal

pub loop-event-init : goal.loop-event-init
loop-event-init c = before_none c.args.pairs.now c.args.counts.now c.in_ok-befores.befores.items
    (c.in_ok-befores.ensures.items_if_clones_equal (λ y h. h))

pub loop-event-preserved : goal.loop-event-preserved
loop-event-preserved c =
    let p = c.args.pairs.now in
    let counts = c.args.counts.now in
    let n = c.loop-event.event in
    let old = c.loop-event.befores.items in
    elim c.if-counts-event-gt0.branch [
      | then-counts-event-gt0 w ↦
          let was : w.deref_mut.result.now ≡ old = w.deref_mut.ensures.value in
          let size : length w.put_seconds.new.befores ≡ length old =
          w.put_seconds.ensures.size ∙ ap (λ (l : List ℕ). length l) was in
          let is : c.if-counts-event-gt0.befores.items ≡ w.put_seconds.new.befores =
          rw w.befores-is (with_items_is c.loop-event.befores w.put_seconds.new.befores
          (size ∙ sym c.loop-event.befores.ok.0)) in
          subst (λ (l : List ℕ). AreBeforeBelow p counts (n + 1) l) (sym is)
          (before_more p counts n old c.loop-event.invariant w.put_seconds.new.befores
          (c.loop-event-test.true, w.if-counts-event-gt0.true) size w.put_seconds.ensures.here
          (subst (λ (l : List ℕ). (f : ℕ) → times_kept p n f ≡ 0 → get_or w.put_seconds.new.befores f 0 ≡ get_or l f 0)
          was w.put_seconds.ensures.others))
      | else-counts-event-gt0 w ↦
          rw w.befores-is (before_still p counts n old c.loop-event.invariant (omega (arith, w.if-counts-event-gt0.false)))
    ]

pub returns : goal.returns
returns c = before_all c.args.pairs.now c.args.counts.now c.loop-event.event c.loop-event.befores.items
    c.loop-event.invariant (omega (arith, c.loop-event-test.false, c.loop-event.auto.event-end)) c.requires.blocked
