use Rattle.std.proofs.Common.{ap}
use Rattle.std.proofs.lemmas.Result.{IfOk-weaker}
use Rattle.machine.specs.Configuration.{Configuration}
use Rattle.run_answers.proofs.runs.seeded_answer.Goals as goal

-- a random run keeps the program and the fault
pub returns : goal.returns
returns c =
    let run = rw (c.in_ok-machine.ensures, c.seed_from_u64-rng.ensures) at c.run_seeded.ensures in
    IfOk-weaker c.machine_answer.result _ _ (λ answer is. record {
      end = c.run_seeded.new.machine;
      rest = _;
      run = run;
      answered = rw (
        ap (λ (m : Configuration). m.program) run.leads,
        ap (λ (m : Configuration). m.fault) run.leads,
      ) at is;
    }) c.machine_answer.ensures
