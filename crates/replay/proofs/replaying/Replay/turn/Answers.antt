use Rattle.std.proofs.Common.{◌≡◌, ◌∙◌, ℕ, ap}
use Rattle.replay.specs.Steps.{executed_before, execute_to, with_steps}
use Rattle.replay.proofs.WrittenSteps.{turn_taken, ok_then}
use Rattle.replay.proofs.replaying.Replay.turn.Goals as goal

pub perform-requires-clause-addresses : goal.perform-requires-clause-addresses
perform-requires-clause-addresses c = λ a uses. rw c.in_ok-execute_to.ensures (c.requires.addresses a uses)

pub returns : goal.returns
returns c =
    let first : c.execute_to.new.self ≡ with_steps c.args.self.now
    (execute_to c.args.self.now.machine.program.cores c.args.self.now.machine.state c.args.core
    (executed_before c.args.number c.args.event)) =
    c.in_ok-execute_to.ensures ∙ ap (λ (k : ℕ). with_steps c.args.self.now
    (execute_to c.args.self.now.machine.program.cores c.args.self.now.machine.state c.args.core k))
    c.executed_before.ensures in
    ok_then c.perform.result (turn_taken c.args.self.now c.execute_to.new.self c.perform.new.self c.args.core
    c.args.number c.args.event first) c.perform.ensures
