use Rattle.std.proofs.Common.{◌≡◌, ◌∙◌, ℕ, List, ap, subst, length}
use Rattle.program.specs.Parts.{Parts, IsProgram}
use Rattle.recording.specs.Execution.{Execution}
use Rattle.program.specs.declared.fault.Fault.TheVariants as fault
use Rattle.machine.specs.State.{opening}
use Rattle.machine.specs.Configuration.{Configuration}
use Rattle.replay.specs.Steps.{most_stores, order_steps, replay_steps, Replaying}
use Rattle.program_events.specs.NamedProgram.{named_program}
use Rattle.replay.specs.OrderReplay.{IsReplayable}
use Rattle.program.specs.AddressNameLaws.{names_count}
use Rattle.replay.proofs.steps.replay_steps.Goals as goal

pub steps_of-requires-clause-names : goal.steps_of-requires-clause-names
steps_of-requires-clause-names c =
    ap (λ (h : Configuration). length h.program.names) c.in_ok-machine.ensures
    ∙ (ap (λ (p : Parts). length p.names) c.in_ok-program.ensures.program
    ∙ names_count (length c.args.recording.now.write_lists))

pub returns-clause-steps : goal.returns-clause-steps
returns-clause-steps c =
    let x : Execution = c.args.recording.now in
    let m : List ℕ = c.args.order.now in
    ap (λ (r : Replaying). r.steps) c.replay.view_is
    ∙ (c.in_ok-replay.ensures.steps
    ∙ (ap (λ (h : Configuration). order_steps x h.capacity h.fault h.state m) c.in_ok-machine.ensures
    ∙ (ap (λ (k : ℕ). order_steps x k fault.None
    (opening c.in_ok-program.program.cores c.in_ok-program.program.init) m)
    c.most_stores.ensures
    ∙ ap (λ (p : Parts). order_steps x (most_stores x.cores) fault.None (opening p.cores p.init) m)
    c.in_ok-program.ensures.program)))

pub returns-clause-replay : goal.returns-clause-replay
returns-clause-replay c = λ capacity room.
    let x : Execution = c.args.recording.now in
    let m : List ℕ = c.args.order.now in
    let program : c.into_program.result ≡ named_program x =
    c.into_program.ensures ∙ (ap (λ (r : Replaying). r.machine.program) c.replay.view_is
    ∙ (c.in_ok-replay.ensures.program ∙ (ap (λ (h : Configuration). h.program) c.in_ok-machine.ensures
    ∙ c.in_ok-program.ensures.program))) in
    let steps : c.replay.inside.steps.items ≡ replay_steps x m = returns-clause-steps c in
    let lawful : IsProgram (named_program x) =
    subst (λ (p : Parts). IsProgram p) c.in_ok-program.ensures.program c.sound-2.ensures.lawful in
    let of : IsReplayable x = record {
      recording = c.requires.short;
      small = (lawful.values, lawful.init_values);
      numbered = c.requires.numbered;
    } in
    rw program (rw steps (c.every_order_is_replayed.ensures.replay x m capacity of c.requires.order room))
