use Rattle.std.proofs.Common.{refl}
use Rattle.verdicts.specs.declared.outcome.Outcome.TheVariants as outcome
use Rattle.answers.specs.declared.rendering.Rendering.TheVariants.{Told}
use Rattle.answers.specs.declared.rendering.Telling.TheVariants.{Words}
use Rattle.tsotest_library.specs.Rendered.{IsRenderedOf}
use Rattle.tsotest_library.proofs.Outcomes.{rendered_of_outcome}
use Rattle.tsotest_library.proofs.Statuses.{put_by, put_0, put_2, put_3}
use Rattle.tsotest_library.proofs.tsotest_explain.Goals as goal

pub returns-clause-allowed : goal.returns-clause-allowed
returns-clause-allowed c zero =
    put_0 outcome.Ordered refl (rendered_of_outcome (Told Words) c.args.recording.now c.args.program.now)
    (put_by (IsRenderedOf (Told Words) c.args.recording.now c.args.program.now)
    c.rendered_answer_of-answer.result c.put_answer.result c.args.out.now c.put_answer.new.out c.put_answer.new.len
    c.rendered_answer_of-answer.ensures c.put_answer.ensures.given c.put_answer.ensures.written
    c.put_answer.ensures.error c.put_answer.ensures.nothing) zero

pub returns-clause-violation : goal.returns-clause-violation
returns-clause-violation c two =
    put_2 outcome.Ordered refl (rendered_of_outcome (Told Words) c.args.recording.now c.args.program.now)
    (put_by (IsRenderedOf (Told Words) c.args.recording.now c.args.program.now)
    c.rendered_answer_of-answer.result c.put_answer.result c.args.out.now c.put_answer.new.out c.put_answer.new.len
    c.rendered_answer_of-answer.ensures c.put_answer.ensures.given c.put_answer.ensures.written
    c.put_answer.ensures.error c.put_answer.ensures.nothing) two

pub returns-clause-refused : goal.returns-clause-refused
returns-clause-refused c three =
    put_3 outcome.Ordered refl (rendered_of_outcome (Told Words) c.args.recording.now c.args.program.now)
    (put_by (IsRenderedOf (Told Words) c.args.recording.now c.args.program.now)
    c.rendered_answer_of-answer.result c.put_answer.result c.args.out.now c.put_answer.new.out c.put_answer.new.len
    c.rendered_answer_of-answer.ensures c.put_answer.ensures.given c.put_answer.ensures.written
    c.put_answer.ensures.error c.put_answer.ensures.nothing) three
