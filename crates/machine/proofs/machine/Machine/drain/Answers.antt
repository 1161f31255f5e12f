use Rattle.std.proofs.Common.{refl, sym, ◌∙◌, ◌<◌, ◌≤◌, ℕ, length, subst}
use Rattle.std.proofs.lemmas.Bool.{lt-ltb, le-ltb}
use Rattle.machine.specs.declared.step.Step.TheVariants.{Drain}
use Rattle.machine.proofs.Parts.{lines_there, buffer_seen}
use Rattle.machine.proofs.DrainParts as drained
use Rattle.machine.proofs.Answered.{taken, blocked}
use Rattle.machine.proofs.Reached.{reached_step}
use Rattle.machine.proofs.machine.Machine.drain.Goals as goal

pub write-requires-clause-event : goal.write-requires-clause-event
write-requires-clause-event c =
    let there = subst (λ (n : ℕ). c.args.core < n) c.cores.ensures.count c.if-core-cores.false in
    (drained.entry_within c.self.invariant.sound there c.index.ensures c.self.inside.fault c.in-Some.ensures).1

pub push-requires : goal.push-requires
push-requires c =
    let there = subst (λ (n : ℕ). c.args.core < n) c.cores.ensures.count c.if-core-cores.false in
    drained.list_has_room c.self.invariant.sound there c.index.ensures c.self.inside.fault c.in-Some.ensures
    c.index_mut.ensures.value c.drain.ensures.entries c.drain.ensures.capacity c.index_mut-2.ensures.value

pub push-requires-2 : goal.push-requires-2
push-requires-2 c =
    let there = subst (λ (n : ℕ). c.args.core < n) c.cores.ensures.count c.if-core-cores.false in
    drained.has_room c.self.invariant.sound there c.index.ensures c.self.inside.fault c.in-Some.ensures
    c.index_mut.ensures.value c.drain.ensures.entries c.drain.ensures.capacity

pub returns : goal.returns
returns c =
    taken (let there = subst (λ (n : ℕ). c.args.core < n) c.cores.ensures.count c.if-core-cores.false in
    rw (← c.self.view_is) (drained.drain_taken c.self.invariant.sound there c.index.ensures c.self.inside.fault
    c.in-Some.ensures c.index_mut.ensures.value c.drain.ensures.entries c.drain.ensures.capacity
    c.index_mut-2.ensures.value c.push.ensures c.push-2.ensures c.in-Ok.ensures.answer.ok))
    (rw (← c.self.view_is) refl)

pub invariant_of-self-2 : goal.invariant_of-self-2
invariant_of-self-2 c =
    let there = subst (λ (n : ℕ). c.args.core < n) c.cores.ensures.count c.if-core-cores.false in
    record {
      sound = drained.drained_sound c.self.invariant.sound there c.index.ensures c.self.inside.fault
          c.in-Some.ensures c.index_mut.ensures.value c.drain.ensures.entries c.drain.ensures.capacity
          c.index_mut-2.ensures.value c.push.ensures c.push-2.ensures
          c.write.ensures.answer.cores c.write.ensures.answer.addresses;
      reached = reached_step (Drain c.args.core) c.self.invariant.reached
          (rw (← c.self.view_is) at (returns c).ok);
      blank_is = c.self.invariant.blank_is;
    }

pub returns-then-core-cores : goal.returns-then-core-cores
returns-then-core-cores c =
    blocked (let none = subst (λ (n : ℕ). n ≤ c.args.core) c.cores.ensures.count c.if-core-cores.true in
    rw (← c.self.view_is) (rw (le-ltb c.args.core (length c.self.inside.program.cores) none) refl))
    refl

pub write-requires-clause-core : goal.write-requires-clause-core
write-requires-clause-core c =
    let there = subst (λ (n : ℕ). c.args.core < n) c.cores.ensures.count c.if-core-cores.false in
    lines_there c.self.invariant.sound there

pub write-requires-clause-address : goal.write-requires-clause-address
write-requires-clause-address c =
    let there = subst (λ (n : ℕ). c.args.core < n) c.cores.ensures.count c.if-core-cores.false in
    subst (λ (n : ℕ). c.in-Some.entry.addr < n) (sym c.self.invariant.sound.cache_blocks)
    (drained.entry_within c.self.invariant.sound there c.index.ensures c.self.inside.fault c.in-Some.ensures).0

pub returns-in_default : goal.returns-in_default
returns-in_default c =
    blocked (let there = subst (λ (n : ℕ). c.args.core < n) c.cores.ensures.count c.if-core-cores.false in
    rw (← c.self.view_is) (rw (
      lt-ltb c.args.core (length c.self.inside.program.cores) there,
      buffer_seen c.self.invariant.sound there c.index.ensures,
      sym c.draining.ensures ∙ c.in_default.is,
    ) refl))
    refl

pub invariant_of-self : goal.invariant_of-self
invariant_of-self c =
    rw c.in_default-write.ensures.answer.unchanged c.self.invariant

pub returns-in_default-write : goal.returns-in_default-write
returns-in_default-write c =
    blocked (let there = subst (λ (n : ℕ). c.args.core < n) c.cores.ensures.count c.if-core-cores.false in
    rw (← c.self.view_is) (rw (
      lt-ltb c.args.core (length c.self.inside.program.cores) there,
      buffer_seen c.self.invariant.sound there c.index.ensures,
      ← c.in-Some.ensures,
      c.in_default-write.ensures.answer.refused,
    ) refl))
    (rw c.in_default-write.ensures.answer.unchanged c.self.view_is)
