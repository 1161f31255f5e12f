use Rattle.std.proofs.Common.{◌≡◌, ◌∙◌, ◌+◌, Some, None, List, ap, arith, length, sym}
use Rattle.program.specs.declared.op.Op.{Op}
use Rattle.program.specs.Parts.{Parts}
use Rattle.recording.specs.declared.event.Event.{Event}
use Rattle.machine.specs.State.{first_event}
use Rattle.replay.specs.Steps.{Replaying, perform, with_steps}
use Rattle.situations.specs.Situation.{place_of}
use Rattle.outcomes.specs.Witness.{op_moved}
use Rattle.outcomes.proofs.Driven.{come_moved, event_within, op_within, place_few}
use Rattle.outcomes.proofs.Grown.{on_ok}
use Rattle.outcomes.proofs.driving.make.Goals as goal

pub overflow_add-first : goal.overflow_add-first
overflow_add-first c = omega (
  arith,
  c.place.ensures,
  c.first_event-first.ensures.small,
  c.sound.ensures.few,
  place_few c.args.program.now c.args.row.now c.args.replay.now c.args.turn.core c.requires.come,
)

pub perform-requires-clause-addresses : goal.perform-requires-clause-addresses
perform-requires-clause-addresses c = λ a uses.
    let p : Parts = c.args.program.now in
    let is : op_moved p.cores c.args.row.now c.args.turn.step c.args.turn.core ≡ Some c.in-Some.op =
    sym c.in-Some.ensures.value in
    let names : length c.execute_to.new.self.machine.program.names ≡ length p.names =
    ap (λ (x : Replaying). length x.machine.program.names) c.in_ok-execute_to.ensures
    ∙ ap (λ (q : Parts). length q.names) c.requires.come.program in
    let within = event_within (length p.names) c.in-Some.op (0, None)
    (op_within (length p.names) p.cores c.args.row.now c.args.turn.step c.args.turn.core c.in-Some.op
    c.sound.ensures.within c.requires.core is) a (rw (← c.event_of.ensures) uses) in
    omega (arith, within, names)

pub returns : goal.returns
returns c =
    let p : Parts = c.args.program.now in
    let is : op_moved p.cores c.args.row.now c.args.turn.step c.args.turn.core ≡ Some c.in-Some.op =
    sym c.in-Some.ensures.value in
    let number : c.first_event-first.result + c.place.result
    ≡ first_event p.cores c.args.turn.core + place_of c.args.row.now c.args.turn.core =
    omega (
      arith,
      c.place.ensures,
      c.first_event-first.ensures.value,
      ap (λ (cs : List (List Op)). first_event cs c.args.turn.core) c.lists.ensures,
    ) in
    on_ok _ _ c.perform.result
    (λ took s at. come_moved p c.sound.ensures.lawful c.args.row.now s c.args.replay.now c.execute_to.new.self
    c.perform.new.self c.args.turn.step c.args.turn.core (c.first_event-first.result + c.place.result) c.in-Some.op
    c.requires.come c.requires.core is at number c.in_ok-execute_to.ensures
    (took ∙ ap (λ (e : Event). with_steps c.execute_to.new.self
    (perform c.execute_to.new.self.machine.state c.args.turn.core e)) c.event_of.ensures)) c.perform.ensures
