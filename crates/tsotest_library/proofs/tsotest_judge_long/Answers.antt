use Rattle.std.proofs.Common.{refl}
use Rattle.verdicts.specs.declared.outcome.Outcome.TheVariants as outcome
use Rattle.text_judge.specs.Answer.{IsLongAnswerOf}
use Rattle.tsotest_library.proofs.Outcomes.{long_answer_outcome}
use Rattle.tsotest_library.proofs.Statuses.{put_by, put_0, put_2, put_3}
use Rattle.tsotest_library.proofs.tsotest_judge_long.Goals as goal

pub returns-clause-allowed : goal.returns-clause-allowed
returns-clause-allowed c zero =
    put_0 outcome.Ordered refl (long_answer_outcome c.args.recording.now)
    (put_by (IsLongAnswerOf c.args.recording.now)
    c.long_answer.result c.put_answer.result c.args.out.now c.put_answer.new.out c.put_answer.new.len
    c.long_answer.ensures c.put_answer.ensures.given c.put_answer.ensures.written
    c.put_answer.ensures.error c.put_answer.ensures.nothing) zero

pub returns-clause-violation : goal.returns-clause-violation
returns-clause-violation c two =
    put_2 outcome.Ordered refl (long_answer_outcome c.args.recording.now)
    (put_by (IsLongAnswerOf c.args.recording.now)
    c.long_answer.result c.put_answer.result c.args.out.now c.put_answer.new.out c.put_answer.new.len
    c.long_answer.ensures c.put_answer.ensures.given c.put_answer.ensures.written
    c.put_answer.ensures.error c.put_answer.ensures.nothing) two

pub returns-clause-refused : goal.returns-clause-refused
returns-clause-refused c three =
    put_3 outcome.Ordered refl (long_answer_outcome c.args.recording.now)
    (put_by (IsLongAnswerOf c.args.recording.now)
    c.long_answer.result c.put_answer.result c.args.out.now c.put_answer.new.out c.put_answer.new.len
    c.long_answer.ensures c.put_answer.ensures.given c.put_answer.ensures.written
    c.put_answer.ensures.error c.put_answer.ensures.nothing) three
