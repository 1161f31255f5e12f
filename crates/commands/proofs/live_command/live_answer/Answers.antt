use Rattle.commands.proofs.live_command.live_answer.Goals as goal

-- the answer of the machine that threads leave is that of the run of its trace
pub returns-in_ok-machine_answer-in-None-clause-ok : goal.returns-in_ok-machine_answer-in-None-clause-ok
returns-in_ok-machine_answer-in-None-clause-ok g c =
    let traced = c.in_ok-traced-in-None in
    let given = traced.ensures.given in
    rw c.in-None.is (record {
      steps = traced.traced.steps;
      state = traced.traced.machine.state;
      taken = rw (given.fault_is, given.capacity_is, given.program_is) at traced.ensures.replay;
      ended = rw (given.program_is, given.limit_is) at traced.ensures.ended;
      answered = rw (c.into_machine.ensures.machine, given.fault_is, given.program_is) at c.in_ok-machine_answer-in-None.ensures;
    })
