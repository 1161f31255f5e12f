use Rattle.std.proofs.Common.{subst, sym, ◌≡◌, ℕ, All, length}
use Rattle.program.specs.Parts.{Parts, IsWithin}
use Rattle.recording.specs.Tso.{IsTsoOrder}
use Rattle.program.specs.declared.fault.Fault.{Fault}
use Rattle.program.specs.declared.fault.Fault.TheVariants as fault
use Rattle.machine.specs.State.{State, recorded, IsComplete}
use Rattle.machine.specs.Step.{run}
use Rattle.machine.specs.Taken.{begun}
use Rattle.live.proofs.Traces.{taken_run}
use Rattle.live.proofs.traced.Traced.sound.Goals as goal

pub returns-clause-tso : goal.returns-clause-tso
returns-clause-tso c =
    let h = c.self.inside.machine in
    let led : run h.program.cores h.capacity h.fault (begun h.program) c.self.inside.steps.items ≡ h.state =
    taken_run h.program.cores h.capacity h.fault (begun h.program) h.state c.self.inside.steps.items
    c.self.invariant.0 in
    let fits = subst (λ (p : Parts). All (λ ops. All (IsWithin (length p.init)) ops) p.cores)
    c.program.ensures (subst (λ (n : ℕ). All (λ ops. All (IsWithin n) ops) c.program.result.now.cores)
    (sym c.sound.ensures.lawful.init_length) c.sound.ensures.within) in
    rw (← c.self.view_is) (λ none end.
    let led' : run h.program.cores h.capacity fault.None (begun h.program) c.self.inside.steps.items
    ≡ h.state =
    subst (λ (f : Fault). run h.program.cores h.capacity f (begun h.program) c.self.inside.steps.items
    ≡ h.state) none led in
    subst (λ (s : State). IsTsoOrder (recorded h.program.cores s) s.performed) led'
    (c.every_run_is_tso.ensures.tso h.program.cores h.program.init h.capacity
    c.self.inside.steps.items fits (subst (λ (s : State). IsComplete h.program.cores s) (sym led') end)))
