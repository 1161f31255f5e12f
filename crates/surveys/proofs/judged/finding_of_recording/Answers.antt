use Rattle.std.proofs.Common.{Ok, Err}
use Rattle.std.proofs.lemmas.Result.{IfOk-weaker}
use Rattle.surveys.proofs.judged.finding_of_recording.Goals as goal

pub returns-in-Ok : goal.returns-in-Ok
returns-in-Ok c =
    IfOk-weaker c.found_in.result _ _ (λ finding is. record {
      given = Ok is.0;
      is_given = record { recording = c.in-Ok.recording; read = c.in-Ok.ensures; found = is.1 };
      finds = is.2;
    }) c.found_in.ensures

pub returns-in-Err : goal.returns-in-Err
returns-in-Err c =
    IfOk-weaker c.refused_finding.result _ _ (λ finding is. record {
      given = Err c.in-Err.refusal;
      is_given = record { read = c.in-Err.ensures; known = is.1 };
      finds = is.0;
    }) c.refused_finding.ensures

pub found_in-requires : goal.found_in-requires
found_in-requires c = c.in-Ok.ensures.3.within.few_events
