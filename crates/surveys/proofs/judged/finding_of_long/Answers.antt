use Rattle.std.proofs.Common.{inl, inr}
use Rattle.std.proofs.lemmas.Result.{IfOk-weaker}
use Rattle.surveys.proofs.judged.finding_of_long.Goals as goal

pub returns-in-Ok : goal.returns-in-Ok
returns-in-Ok c =
    IfOk-weaker c.found_in_long.result _ _ (λ finding is. inl (record {
      recording = c.in-Ok.recording;
      answer = is.0;
      read = c.in-Ok.ensures;
      found = is.1;
      finds = is.2;
    })) c.found_in_long.ensures

pub returns-in-Err : goal.returns-in-Err
returns-in-Err c =
    IfOk-weaker c.refused_finding.result _ _ (λ finding is. inr (record {
      refusal = c.in-Err.refusal;
      read = c.in-Err.ensures;
      known = is.1;
      finds = is.0;
    })) c.refused_finding.ensures
