use Rattle.std.proofs.Common.{inl, Result, Ok, Err}
use Rattle.std.specs.Prelude.{IfOk}
use Rattle.tsotest_library.proofs.checking.check_answer.Goals as goal

-- what two clauses say of one value
both : {A E : Type 0} {P Q R : A → Type 0} (r : Result A E) → ((a : A) → P a → Q a → R a) → IfOk r P → IfOk r Q
    → IfOk r R
both (Ok a) make p q = make a p q
both (Err e) make p q = tt

pub check_answer_alone-requires : goal.check_answer_alone-requires
check_answer_alone-requires c = record { few = (rw c.in-Ok.is at c.in_ok-recording.ensures).3.within.few_events }

pub returns-in-Ok : goal.returns-in-Ok
returns-in-Ok c = both c.check_answer_alone.result (λ answer proof line. inl (record {
  recording = c.in-Ok.recording;
  read = rw c.in-Ok.is at c.in_ok-recording.ensures;
  answered = proof;
  line = line;
})) c.check_answer_alone.ensures.proof c.check_answer_alone.ensures.line
