use Rattle.std.proofs.Common.{refl, sym, ◌∙◌}
use Rattle.machine.specs.ScriptLine.{transaction_step}
use Rattle.machine.proofs.Transacted.{transacted_sound, transaction_row}
use Rattle.machine.proofs.Reached.{reached_step}
use Rattle.machine.proofs.Answered.{taken, blocked}
use Rattle.machine.proofs.Inside.{line_inside}
use Rattle.machine.proofs.machine.Machine.transact.Goals as goal

pub returns : goal.returns
returns c =
    taken (let there = line_inside c.args.core c.args.addr c.self.view_is (sym c.has.ensures ∙ c.if-not-has.false) in
    rw (← c.self.view_is) (transaction_row _ _ _ _ c.args.kind _ _
    ∙ rw (there, c.in-Ok.ensures.ok) refl))
    (rw (← c.self.view_is) refl)

pub invariant_of-self-2 : goal.invariant_of-self-2
invariant_of-self-2 c = record {
  sound = transacted_sound c.self.invariant.sound c.transact.ensures.cores c.transact.ensures.addresses;
  reached = reached_step (transaction_step c.args.kind c.args.core c.args.addr) c.self.invariant.reached
      (rw (← c.self.view_is) at (returns c).ok);
  blank_is = c.self.invariant.blank_is;
}

pub returns-then-not-has : goal.returns-then-not-has
returns-then-not-has c =
    blocked (transaction_row _ _ _ _ c.args.kind _ _ ∙ rw (sym c.has.ensures ∙ c.if-not-has.true) refl)
    refl

pub invariant_of-self : goal.invariant_of-self
invariant_of-self c =
    rw c.in_default.ensures.unchanged c.self.invariant

pub returns-in_default : goal.returns-in_default
returns-in_default c =
    blocked (let there = line_inside c.args.core c.args.addr c.self.view_is (sym c.has.ensures ∙ c.if-not-has.false) in
    rw (← c.self.view_is) (transaction_row _ _ _ _ c.args.kind _ _
    ∙ rw (there, c.in_default.ensures.refused) refl))
    (rw c.in_default.ensures.unchanged c.self.view_is)
