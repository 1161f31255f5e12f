use Rattle.std.proofs.Common.{arith, sym, ap, ◌∙◌, refl, subst, ◌<◌, ℕ, length-set}
use Rattle.machine.specs.Step.{forwarded_or_read}
use Rattle.machine.proofs.Parts.{few, lines_there, buffer_seen}
use Rattle.machine.proofs.ExecuteParts as executed
use Rattle.machine.proofs.Reached.{reached_exec}
use Rattle.machine.proofs.Answered.{taken, blocked}
use Rattle.machine.proofs.Inside.{at_inside}
use Rattle.machine.proofs.machine.Machine.load.Goals as goal

pub index_mut-requires : goal.index_mut-requires
index_mut-requires c = omega (arith, executed.number c.self.invariant.sound (at_inside c.self.view_is c.requires))

pub push-requires : goal.push-requires
push-requires c = executed.has_room c.self.invariant.sound (at_inside c.self.view_is c.requires)

pub advance-requires-clause-left : goal.advance-requires-clause-left
advance-requires-clause-left c =
    executed.left c.self.invariant.sound (at_inside c.self.view_is c.requires) c.index_mut-2.ensures.value
    c.ops.ensures

pub advance-requires-clause-few : goal.advance-requires-clause-few
advance-requires-clause-few c =
    few c.self.invariant.sound (at_inside c.self.view_is c.requires).core c.index_mut-2.ensures.value c.ops.ensures

pub returns : goal.returns
returns c =
    taken (rw (← c.self.view_is, c.push.ensures)
    (executed.load_taken c.self.invariant.sound (at_inside c.self.view_is c.requires) c.index_mut-2.ensures.value
    c.advance.ensures c.self.inside.fault c.index.ensures c.args.addr c.forwarded_store-entry.result
    c.forwarded_store-entry.ensures c.in-Ok.what
    (ap (forwarded_or_read c.forwarded_store-entry.result) (sym c.read.ensures) ∙ sym c.in-Ok.ensures)))
    (rw (← c.self.view_is) refl)

pub invariant_of-self : goal.invariant_of-self
invariant_of-self c =
    let at = at_inside c.self.view_is c.requires in
    record {
      sound = executed.performed_sound c.self.invariant.sound at c.index_mut-2.ensures.value c.advance.ensures
          (length-set c.self.inside.reads.items _ _) c.push.ensures;
      reached = reached_exec at c.self.invariant.reached (rw (← c.self.view_is) at (returns c).ok);
      blank_is = c.self.invariant.blank_is;
    }

pub read-requires-clause-core : goal.read-requires-clause-core
read-requires-clause-core c = lines_there c.self.invariant.sound (at_inside c.self.view_is c.requires).core

pub ops-requires : goal.ops-requires
ops-requires c = (at_inside c.self.view_is c.requires).core

pub read-requires-clause-address : goal.read-requires-clause-address
read-requires-clause-address c =
    subst (λ (n : ℕ). c.args.addr < n) (sym c.self.invariant.sound.cache_blocks)
    (executed.within c.self.invariant.sound (at_inside c.self.view_is c.requires))

pub returns-in_default : goal.returns-in_default
returns-in_default c =
    blocked (let core = (at_inside c.self.view_is c.requires).core in
    rw (← c.self.view_is) (rw (
      buffer_seen c.self.invariant.sound core c.index.ensures,
      ← c.forwarded_store-entry.ensures,
      ap (forwarded_or_read c.forwarded_store-entry.result) (sym c.read.ensures) ∙ sym c.in_default.ensures,
    ) refl))
    refl
