use Rattle.std.proofs.Common.{sym, ap, ◌∙◌, subst, ◌≡◌, ◌<◌, length, not, true, false}
use Rattle.std.specs.Prelude.{is_some}
use Rattle.machine.specs.Configuration.{Configuration}
use Rattle.machine.proofs.Parts.{few, buffer_seen}
use Rattle.machine.proofs.Ends.{done_is, none_is}
use Rattle.machine.proofs.machine.Machine.is_done.Goals as goal

pub next-requires : goal.next-requires
next-requires c = few c.self.invariant.sound
    (subst (λ (h : Configuration). c.args.core < length h.program.cores) (sym c.self.view_is) c.requires)
    c.index.ensures c.ops.ensures

pub returns-then-is_none : goal.returns-then-is_none
returns-then-is_none c =
    let there = subst (λ (h : Configuration). c.args.core < length h.program.cores)
    (sym c.self.view_is) c.requires in
    let none = ap is_some (sym c.next.ensures) ∙ (c.is_none.ensures ∙ ap not c.if-is_none.true) in
    let buffer_is = c.index-then-is_none.ensures in
    rw (← c.self.view_is) (
      λ empty. done_is c.self.invariant.sound there c.index.ensures c.ops.ensures buffer_is none
          (c.is_empty.ensures.0 empty),
      λ done. c.is_empty.ensures.1 (sym (buffer_seen c.self.invariant.sound there buffer_is) ∙ done.1),
    )

pub returns-else-is_none : goal.returns-else-is_none
returns-else-is_none c =
    let there = subst (λ (h : Configuration). c.args.core < length h.program.cores)
    (sym c.self.view_is) c.requires in
    rw (← c.self.view_is) (
      λ holds. absurd (let clash : true ≡ false = sym holds ∙ c.if-is_none.false in cc),
      λ done. absurd (let clash : true ≡ false = sym (ap not c.if-is_none.false)
          ∙ (sym c.is_none.ensures ∙ (ap is_some c.next.ensures
          ∙ none_is c.self.invariant.sound there c.index.ensures c.ops.ensures done)) in cc),
    )
