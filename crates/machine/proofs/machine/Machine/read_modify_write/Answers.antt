use Rattle.std.proofs.Common.{arith, refl, sym, ◌∙◌, length-set}
use Rattle.recording.specs.Event.{value_written}
use Rattle.moesi.specs.State as moesi
use Rattle.program_events.specs.ProgramOf.{event_of}
use Rattle.machine.proofs.Cached.{read_is, unread_unwritten}
use Rattle.machine.proofs.Parts.{few, lines_there, buffer_seen}
use Rattle.machine.proofs.ExecuteParts as executed
use Rattle.machine.proofs.Reached.{reached_exec}
use Rattle.machine.proofs.Answered.{taken, blocked}
use Rattle.machine.proofs.Inside.{address_inside, at_inside}
use Rattle.machine.proofs.machine.Machine.read_modify_write.Goals as goal

pub returns-in_default : goal.returns-in_default
returns-in_default c =
    blocked (let core = (at_inside c.self.view_is c.requires.at).core in
    let may = sym c.may_rmw.ensures ∙ c.if-not-may_rmw.false in
    let refused = unread_unwritten c.self.inside.caches c.args.core c.args.addr
    (value_written (event_of c.args.op (moesi.copy_of c.self.inside.caches c.args.core c.args.addr))) c.args.event
    c.in_default.field-0 (sym c.read.ensures ∙ c.in_default.is) in
    c.requires.row ∙ rw (← c.self.view_is)
    (rw (buffer_seen c.self.invariant.sound core c.index.ensures, may, refused) refl))
    refl

pub returns-in_default-write : goal.returns-in_default-write
returns-in_default-write c =
    blocked (let core = (at_inside c.self.view_is c.requires.at).core in
    let may = sym c.may_rmw.ensures ∙ c.if-not-may_rmw.false in
    let what = (read_is c.self.inside.caches c.args.core c.args.addr c.in-Ok.read (sym c.in-Ok.ensures)).1 in
    let refused = rw (c.value_written-value.ensures, c.event_of.ensures) at c.in_default-write.ensures.answer.refused in
    c.requires.row ∙ rw (← c.self.view_is)
    (rw (buffer_seen c.self.invariant.sound core c.index.ensures, may, what, refused) refl))
    (rw c.in_default-write.ensures.answer.unchanged c.self.view_is)

pub write-requires-clause-event : goal.write-requires-clause-event
write-requires-clause-event c =
    executed.number_few c.self.invariant.sound (at_inside c.self.view_is c.requires.at)

pub index_mut-requires : goal.index_mut-requires
index_mut-requires c = omega (arith, executed.number c.self.invariant.sound (at_inside c.self.view_is c.requires.at))

pub push-requires : goal.push-requires
push-requires c =
    executed.list_has_room c.self.invariant.sound (at_inside c.self.view_is c.requires.at)
    (address_inside c.self.view_is c.requires.address) c.index_mut-2.ensures.value

pub push-requires-2 : goal.push-requires-2
push-requires-2 c = executed.has_room c.self.invariant.sound (at_inside c.self.view_is c.requires.at)

pub advance-requires-clause-left : goal.advance-requires-clause-left
advance-requires-clause-left c =
    executed.left c.self.invariant.sound (at_inside c.self.view_is c.requires.at) c.index_mut-3.ensures.value
    c.ops.ensures

pub advance-requires-clause-few : goal.advance-requires-clause-few
advance-requires-clause-few c =
    few c.self.invariant.sound (at_inside c.self.view_is c.requires.at).core c.index_mut-3.ensures.value c.ops.ensures

pub returns : goal.returns
returns c =
    taken (let may = sym c.may_rmw.ensures ∙ c.if-not-may_rmw.false in
    let what = (read_is c.self.inside.caches c.args.core c.args.addr c.in-Ok.read (sym c.in-Ok.ensures)).1 in
    let wrote = rw (c.value_written-value.ensures, c.event_of.ensures) at c.in-Ok-write.ensures.answer.ok in
    c.requires.row ∙ rw (← c.self.view_is, c.push-2.ensures)
    (executed.rmw_taken c.self.invariant.sound (at_inside c.self.view_is c.requires.at)
    c.index_mut-3.ensures.value c.advance.ensures c.self.inside.fault c.index.ensures may c.args.addr c.in-Ok.read
    what (address_inside c.self.view_is c.requires.address) c.write.new.self wrote c.index_mut-2.result.now
    c.push.new.self c.index_mut-2.ensures.value c.push.ensures))
    (rw (← c.self.view_is) refl)

pub invariant_of-self-2 : goal.invariant_of-self-2
invariant_of-self-2 c =
    let at = at_inside c.self.view_is c.requires.at in
    record {
      sound = executed.rmw_sound c.self.invariant.sound at c.index_mut-3.ensures.value c.advance.ensures
          (address_inside c.self.view_is c.requires.address) c.index_mut-2.ensures.value c.write.ensures.answer.cores
          c.write.ensures.answer.addresses (length-set c.self.inside.reads.items _ _) c.push.ensures c.push-2.ensures;
      reached = reached_exec at c.self.invariant.reached (rw (← c.self.view_is) at (returns c).ok);
      blank_is = c.self.invariant.blank_is;
    }

pub read-requires-clause-core : goal.read-requires-clause-core
read-requires-clause-core c = lines_there c.self.invariant.sound (at_inside c.self.view_is c.requires.at).core

pub write-requires-clause-core : goal.write-requires-clause-core
write-requires-clause-core c = lines_there c.self.invariant.sound (at_inside c.self.view_is c.requires.at).core

pub read-requires-clause-address : goal.read-requires-clause-address
read-requires-clause-address c =
    rw c.self.invariant.sound.cache_blocks (address_inside c.self.view_is c.requires.address)

pub write-requires-clause-address : goal.write-requires-clause-address
write-requires-clause-address c =
    rw c.self.invariant.sound.cache_blocks (address_inside c.self.view_is c.requires.address)

pub returns-then-not-may_rmw : goal.returns-then-not-may_rmw
returns-then-not-may_rmw c =
    blocked (let core = (at_inside c.self.view_is c.requires.at).core in
    c.requires.row ∙ rw (← c.self.view_is) (rw (
      buffer_seen c.self.invariant.sound core c.index.ensures,
      sym c.may_rmw.ensures ∙ c.if-not-may_rmw.true,
    ) refl))
    refl

pub invariant_of-self : goal.invariant_of-self
invariant_of-self c =
    rw c.in_default-write.ensures.answer.unchanged c.self.invariant

pub ops-requires : goal.ops-requires
ops-requires c = (at_inside c.self.view_is c.requires.at).core
