use Rattle.std.proofs.Common.{arith, refl, sym, ap, ◌∙◌, ◌≡◌, true, false, length-set}
use Rattle.moesi.specs.Lines.{is_exclusive}
use Rattle.moesi.specs.State as moesi
use Rattle.machine.proofs.Cached.{read_is, exclusive_read}
use Rattle.machine.proofs.Parts.{few, lines_there, buffer_seen}
use Rattle.machine.proofs.ExecuteParts as executed
use Rattle.machine.proofs.Reached.{reached_exec}
use Rattle.machine.proofs.Answered.{taken, blocked}
use Rattle.machine.proofs.Inside.{address_inside, at_inside}
use Rattle.machine.proofs.machine.Machine.read_unmodified.Goals as goal

pub index_mut-requires : goal.index_mut-requires
index_mut-requires c = omega (arith, executed.number c.self.invariant.sound (at_inside c.self.view_is c.requires.at))

pub push-requires : goal.push-requires
push-requires c = executed.has_room c.self.invariant.sound (at_inside c.self.view_is c.requires.at)

pub advance-requires-clause-left : goal.advance-requires-clause-left
advance-requires-clause-left c =
    executed.left c.self.invariant.sound (at_inside c.self.view_is c.requires.at) c.index_mut-2.ensures.value
    c.ops.ensures

pub advance-requires-clause-few : goal.advance-requires-clause-few
advance-requires-clause-few c =
    few c.self.invariant.sound (at_inside c.self.view_is c.requires.at).core c.index_mut-2.ensures.value c.ops.ensures

pub returns : goal.returns
returns c =
    taken (let may = sym c.may_rmw.ensures ∙ c.if-not-may_rmw.false in
    let owned : is_exclusive (moesi.line_of c.self.inside.caches c.args.core c.args.addr) ≡ true =
    ap is_exclusive (sym c.line.ensures) ∙ (sym c.is_exclusive.ensures ∙ c.if-not-is_exclusive.false) in
    let what = (read_is c.self.inside.caches c.args.core c.args.addr c.in-Ok.read (sym c.in-Ok.ensures)).1 in
    c.requires.row ∙ rw (← c.self.view_is, c.push.ensures)
    (executed.compare_taken c.self.invariant.sound (at_inside c.self.view_is c.requires.at)
    c.index_mut-2.ensures.value c.advance.ensures c.self.inside.fault c.index.ensures may c.args.addr c.in-Ok.read
    what owned))
    (rw (← c.self.view_is) refl)

pub invariant_of-self : goal.invariant_of-self
invariant_of-self c =
    let at = at_inside c.self.view_is c.requires.at in
    record {
      sound = executed.performed_sound c.self.invariant.sound at c.index_mut-2.ensures.value c.advance.ensures
          (length-set c.self.inside.reads.items _ _) c.push.ensures;
      reached = reached_exec at c.self.invariant.reached (rw (← c.self.view_is) at (returns c).ok);
      blank_is = c.self.invariant.blank_is;
    }

pub line-requires-clause-core : goal.line-requires-clause-core
line-requires-clause-core c = lines_there c.self.invariant.sound (at_inside c.self.view_is c.requires.at).core

pub line-requires-clause-address : goal.line-requires-clause-address
line-requires-clause-address c =
    rw c.self.invariant.sound.cache_blocks (address_inside c.self.view_is c.requires.address)

pub read-requires-clause-core : goal.read-requires-clause-core
read-requires-clause-core c = lines_there c.self.invariant.sound (at_inside c.self.view_is c.requires.at).core

pub read-requires-clause-address : goal.read-requires-clause-address
read-requires-clause-address c =
    rw c.self.invariant.sound.cache_blocks (address_inside c.self.view_is c.requires.address)

pub ops-requires : goal.ops-requires
ops-requires c = (at_inside c.self.view_is c.requires.at).core

pub returns-then-not-may_rmw : goal.returns-then-not-may_rmw
returns-then-not-may_rmw c =
    blocked (let core = (at_inside c.self.view_is c.requires.at).core in
    c.requires.row ∙ rw (← c.self.view_is) (rw (
      buffer_seen c.self.invariant.sound core c.index.ensures,
      sym c.may_rmw.ensures ∙ c.if-not-may_rmw.true,
    ) refl))
    refl

pub returns-then-not-is_exclusive : goal.returns-then-not-is_exclusive
returns-then-not-is_exclusive c =
    blocked (let core = (at_inside c.self.view_is c.requires.at).core in
    let shared : is_exclusive (moesi.line_of c.self.inside.caches c.args.core c.args.addr) ≡ false =
    ap is_exclusive (sym c.line.ensures) ∙ (sym c.is_exclusive.ensures ∙ c.if-not-is_exclusive.true) in
    c.requires.row ∙ rw (← c.self.view_is) (rw (
      buffer_seen c.self.invariant.sound core c.index.ensures,
      sym c.may_rmw.ensures ∙ c.if-not-may_rmw.false,
      shared,
    ) refl))
    refl

pub returns-in_default : goal.returns-in_default
returns-in_default c =
    blocked (let owned : is_exclusive (moesi.line_of c.self.inside.caches c.args.core c.args.addr) ≡ true =
    ap is_exclusive (sym c.line.ensures) ∙ (sym c.is_exclusive.ensures ∙ c.if-not-is_exclusive.false) in
    let clash = sym (exclusive_read c.self.inside.caches c.args.core c.args.addr owned)
    ∙ (sym c.read.ensures ∙ c.in_default.is) in
    absurd (cc clash))
    refl
