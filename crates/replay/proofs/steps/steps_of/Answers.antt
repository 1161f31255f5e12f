use Rattle.std.proofs.Common.{◌<◌, ◌≡◌, ◌+◌, ◌++◌, ◌∷◌, ◌∙◌, ℕ, suc, List, ap, subst, sym, length}
use Rattle.std.proofs.Common.{get_or, drop, drop-cons, arith}
use Rattle.recording.specs.declared.event.Event.{Event}
use Rattle.recording.specs.Execution.{Execution, core_of, event_at}
use Rattle.recording.specs.PlaceLaws.{times_at}
use Rattle.replay.specs.Steps.{turn, order_steps, Replaying, with_steps}
use Rattle.replay.proofs.Made.{core_there}
use Rattle.replay.proofs.WrittenSteps.{order_machine, order_more}
use Rattle.replay.proofs.steps.steps_of.Goals as goal

pub unreachable-requires : goal.unreachable-requires
unreachable-requires c =
    omega (
      arith,
      c.in-None.ensures,
      c.requires.events (get_or c.args.order.now c.loop-number.number-index 0)
          (times_at c.args.order.now c.loop-number.number-index c.loop-number-test.true),
    )

pub turn-requires-clause-core : goal.turn-requires-clause-core
turn-requires-clause-core c =
    let x : Execution = c.args.recording.now in
    let e : ℕ = get_or c.args.order.now c.loop-number.number-index 0 in
    let within : core_of x e < length c.args.machine.program.cores =
    rw c.requires.cores (core_there x e c.in-Some.ensures.0) in
    rw c.loop-number.invariant.machine
    (subst (λ (k : ℕ). k < length c.args.machine.program.cores) (sym c.in-Some.ensures.1) within)

pub turn-requires-clause-addresses : goal.turn-requires-clause-addresses
turn-requires-clause-addresses c = λ a uses.
    let x : Execution = c.args.recording.now in
    let e : ℕ = get_or c.args.order.now c.loop-number.number-index 0 in
    let within : a < length x.write_lists =
    c.sound.ensures.within.addresses e a
    (rw (← c.in-Some.ensures.2) uses) in
    rw c.loop-number.invariant.machine (omega (arith, within, c.requires.names))

pub loop-number-preserved : goal.loop-number-preserved
loop-number-preserved c =
    let x : Execution = c.args.recording.now in
    let old : Replaying = c.loop-number.replay in
    let new : Replaying = c.turn.new.self in
    let i : ℕ = c.loop-number.number-index in
    let m : List ℕ = c.args.order.now in
    let e : ℕ = get_or m i 0 in
    let took : new ≡ with_steps old (turn old.machine.program.cores old.machine.capacity old.machine.fault
    old.machine.state (core_of x e) e (event_at x e)) =
    c.in_ok-turn.ensures
    ∙ (ap (λ (k : ℕ). with_steps old (turn old.machine.program.cores old.machine.capacity old.machine.fault
    old.machine.state k e c.in-Some.placed.1.now)) c.in-Some.ensures.1
    ∙ ap (λ (ev : Event). with_steps old
    (turn old.machine.program.cores old.machine.capacity old.machine.fault old.machine.state (core_of x e)
    e ev)) c.in-Some.ensures.2) in
    let split : drop i m ≡ e ∷ drop (i + 1) m =
    drop-cons m i 0 c.loop-number-test.true
    ∙ ap (λ (k : ℕ). e ∷ drop k m) (let next : suc i ≡ i + 1 = omega arith in next) in
    record {
      machine = order_machine x c.args.machine old new e c.loop-number.invariant.machine c.requires.cores
          took;
      steps = order_more x c.args.machine old new e c.loop-number.invariant.machine c.requires.cores took
          (drop (i + 1) m) (order_steps x c.args.machine.capacity c.args.machine.fault c.args.machine.state m)
          (subst (λ (l : List ℕ). old.steps ++ order_steps x c.args.machine.capacity c.args.machine.fault
          old.machine.state l ≡ order_steps x c.args.machine.capacity c.args.machine.fault
          c.args.machine.state m) split c.loop-number.invariant.steps);
    }
