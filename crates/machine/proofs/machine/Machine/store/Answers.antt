use Rattle.std.proofs.Common.{◌≡◌, ◌<◌, ◌≤◌, ℕ, true, false, List, length, slice_index_or, slice_set, arith, ap, ◌∙◌}
use Rattle.std.proofs.Common.{refl}
use Rattle.std.proofs.lemmas.List.{set-get_or}
use Rattle.std.proofs.lemmas.Bool.{le-ltb}
use Rattle.write_buffer.specs.Buffer.{Buffer}
use Rattle.machine.proofs.Parts.{few, buffer_seen, capacity_is}
use Rattle.machine.proofs.ExecuteParts as executed
use Rattle.machine.proofs.Reached.{reached_exec}
use Rattle.machine.proofs.Answered.{taken, blocked}
use Rattle.machine.proofs.Inside.{at_inside}
use Rattle.machine.proofs.machine.Machine.store.Goals as goal

-- a buffer that refuses a store is full
no_room : (n room : ℕ) → (n < room → false ≡ true) → room ≤ n
no_room n room h =
    let full : n < room → ⊥ = λ k. (let off : false ≡ true = h k in cc) in
    omega (arith, full)

-- and stays
buffers_stay : {buffers : List Buffer} (core : ℕ) {old new : Buffer} → old ≡ slice_index_or buffers core old
    → new ≡ old → slice_set buffers core new ≡ buffers
buffers_stay {buffers} core {old} {new} is same =
    ap (λ (b : Buffer). slice_set buffers core b) (same ∙ is) ∙ set-get_or buffers core old

pub advance-requires-clause-few : goal.advance-requires-clause-few
advance-requires-clause-few c =
    few c.self.invariant.sound (at_inside c.self.view_is c.requires).core c.index_mut-2.ensures.value c.ops.ensures

pub returns : goal.returns
returns c =
    taken (rw (← c.self.view_is) (executed.store_taken c.self.invariant.sound (at_inside c.self.view_is c.requires)
    c.index_mut-2.ensures.value c.advance.ensures c.index_mut.ensures.value _ c.in-Ok.ensures.ok
    c.self.inside.fault refl (c.in-Ok.ensures.variant.0 refl)))
    (rw (← c.self.view_is) refl)

pub invariant_of-self-2 : goal.invariant_of-self-2
invariant_of-self-2 c =
    let at = at_inside c.self.view_is c.requires in
    record {
      sound = executed.stored_sound c.self.invariant.sound at c.index_mut-2.ensures.value c.advance.ensures
          c.index_mut.ensures.value _ c.in-Ok.ensures.ok
          (executed.within c.self.invariant.sound at, executed.number_few c.self.invariant.sound at);
      reached = reached_exec at c.self.invariant.reached (rw (← c.self.view_is) at (returns c).ok);
      blank_is = c.self.invariant.blank_is;
    }

pub ops-requires : goal.ops-requires
ops-requires c = (at_inside c.self.view_is c.requires).core

pub advance-requires-clause-left : goal.advance-requires-clause-left
advance-requires-clause-left c =
    executed.left c.self.invariant.sound (at_inside c.self.view_is c.requires) c.index_mut-2.ensures.value
    c.ops.ensures

pub invariant_of-self : goal.invariant_of-self
invariant_of-self c =
    rw (buffers_stay c.args.core c.index_mut.ensures.value c.in_default.ensures.err.1) c.self.invariant

pub returns-in_default : goal.returns-in_default
returns-in_default c =
    blocked (let core = (at_inside c.self.view_is c.requires).core in
    let full : c.self.inside.capacity ≤ length c.index_mut.result.now.entries =
    omega (
      arith,
      no_room _ _ c.in_default.ensures.variant.1,
      capacity_is c.self.invariant.sound core c.index_mut.ensures.value,
    ) in
    rw (← c.self.view_is) (rw (
      buffer_seen c.self.invariant.sound core c.index_mut.ensures.value,
      le-ltb (length c.index_mut.result.now.entries) c.self.inside.capacity full,
    ) refl))
    (rw (buffers_stay c.args.core c.index_mut.ensures.value c.in_default.ensures.err.1) c.self.view_is)
