use Rattle.std.proofs.Common.{refl}
use Rattle.verdicts.specs.declared.outcome.Outcome.TheVariants as outcome
use Rattle.tsotest_library.specs.Checked.{IsCheckOf}
use Rattle.tsotest_library.proofs.Outcomes.{check_of_outcome}
use Rattle.tsotest_library.proofs.Statuses.{put_by, put_0, put_2, put_3}
use Rattle.tsotest_library.proofs.tsotest_verify.Goals as goal

pub returns-clause-holds : goal.returns-clause-holds
returns-clause-holds c zero =
    put_0 outcome.Done refl (check_of_outcome c.args.recording.now c.args.verdict.now)
    (put_by (IsCheckOf c.args.recording.now c.args.verdict.now)
    c.check_answer.result c.put_answer.result c.args.out.now c.put_answer.new.out c.put_answer.new.len
    c.check_answer.ensures c.put_answer.ensures.given c.put_answer.ensures.written
    c.put_answer.ensures.error c.put_answer.ensures.nothing) zero

pub returns-clause-fails : goal.returns-clause-fails
returns-clause-fails c two =
    put_2 outcome.Done refl (check_of_outcome c.args.recording.now c.args.verdict.now)
    (put_by (IsCheckOf c.args.recording.now c.args.verdict.now)
    c.check_answer.result c.put_answer.result c.args.out.now c.put_answer.new.out c.put_answer.new.len
    c.check_answer.ensures c.put_answer.ensures.given c.put_answer.ensures.written
    c.put_answer.ensures.error c.put_answer.ensures.nothing) two

pub returns-clause-refused : goal.returns-clause-refused
returns-clause-refused c three =
    put_3 outcome.Done refl (check_of_outcome c.args.recording.now c.args.verdict.now)
    (put_by (IsCheckOf c.args.recording.now c.args.verdict.now)
    c.check_answer.result c.put_answer.result c.args.out.now c.put_answer.new.out c.put_answer.new.len
    c.check_answer.ensures c.put_answer.ensures.given c.put_answer.ensures.written
    c.put_answer.ensures.error c.put_answer.ensures.nothing) three
