use Rattle.std.proofs.Common.{◌∙◌, List, ap}
use Rattle.program.specs.declared.op.Op.{Op}
use Rattle.program.specs.Parts.{Parts, op_count}
use Rattle.machine.specs.Configuration.{Configuration}
use Rattle.machine.specs.State.{opening}
use Rattle.replay.specs.Steps.{Replaying}
use Rattle.outcomes.proofs.Driven.{begun}
use Rattle.outcomes.proofs.driving.open_replay.Goals as goal

pub returns : goal.returns
returns c =
    let p : Parts = c.args.program.now in
    let x : Replaying = record { machine = c.in_ok-machine.machine; steps = c.new-2.result.items } in
    begun p x (ap (λ (h : Configuration). h.program) c.in_ok-machine.ensures ∙ c.in_ok-copy.ensures)
    (ap (λ (h : Configuration). h.fault) c.in_ok-machine.ensures)
    (ap (λ (h : Configuration). h.capacity) c.in_ok-machine.ensures ∙ (c.op_count-capacity.ensures
    ∙ ap (λ (cs : List (List Op)). op_count cs) c.lists.ensures))
    (ap (λ (h : Configuration). h.state) c.in_ok-machine.ensures
    ∙ ap (λ (q : Parts). opening q.cores q.init) c.in_ok-copy.ensures)
    c.new-2.ensures.items
