use Rattle.std.proofs.Common.{sym, ◌∙◌, refl}
use Rattle.machine.proofs.Parts.{few, buffer_seen}
use Rattle.machine.proofs.ExecuteParts as executed
use Rattle.machine.proofs.Reached.{reached_exec}
use Rattle.machine.proofs.Answered.{taken, blocked}
use Rattle.machine.proofs.Inside.{at_inside}
use Rattle.machine.proofs.machine.Machine.fence.Goals as goal

pub push-requires : goal.push-requires
push-requires c = executed.has_room c.self.invariant.sound (at_inside c.self.view_is c.requires)

pub advance-requires-clause-left : goal.advance-requires-clause-left
advance-requires-clause-left c =
    executed.left c.self.invariant.sound (at_inside c.self.view_is c.requires) c.index_mut.ensures.value c.ops.ensures

pub advance-requires-clause-few : goal.advance-requires-clause-few
advance-requires-clause-few c =
    few c.self.invariant.sound (at_inside c.self.view_is c.requires).core c.index_mut.ensures.value c.ops.ensures

pub returns : goal.returns
returns c =
    taken (rw (← c.self.view_is, c.push.ensures)
    (executed.fence_taken c.self.invariant.sound (at_inside c.self.view_is c.requires) c.index_mut.ensures.value
    c.advance.ensures c.self.inside.fault c.index.ensures (sym c.may_fence.ensures ∙ c.if-not-may_fence.false)))
    (rw (← c.self.view_is) refl)

pub invariant_of-self : goal.invariant_of-self
invariant_of-self c =
    let at = at_inside c.self.view_is c.requires in
    record {
      sound = executed.performed_sound c.self.invariant.sound at c.index_mut.ensures.value c.advance.ensures refl
          c.push.ensures;
      reached = reached_exec at c.self.invariant.reached (rw (← c.self.view_is) at (returns c).ok);
      blank_is = c.self.invariant.blank_is;
    }

pub ops-requires : goal.ops-requires
ops-requires c = (at_inside c.self.view_is c.requires).core

pub returns-then-not-may_fence : goal.returns-then-not-may_fence
returns-then-not-may_fence c =
    blocked (let core = (at_inside c.self.view_is c.requires).core in
    rw (← c.self.view_is) (rw (
      buffer_seen c.self.invariant.sound core c.index.ensures,
      sym c.may_fence.ensures ∙ c.if-not-may_fence.true,
    ) refl))
    refl
