use Rattle.std.proofs.Common.{refl}
use Rattle.verdicts.specs.declared.outcome.Outcome.TheVariants as outcome
use Rattle.answers.specs.declared.rendering.Rendering.TheVariants.{Told}
use Rattle.answers.specs.declared.rendering.Telling.TheVariants.{Words}
use Rattle.tsotest_library.specs.Rendered.{IsLongRenderedOf}
use Rattle.tsotest_library.proofs.Outcomes.{long_rendered_of_outcome}
use Rattle.tsotest_library.proofs.Statuses.{put_by, put_0, put_2, put_3}
use Rattle.tsotest_library.proofs.tsotest_explain_long.Goals as goal

pub returns-clause-allowed : goal.returns-clause-allowed
returns-clause-allowed c zero =
    put_0 outcome.Ordered refl (long_rendered_of_outcome (Told Words) c.args.recording.now)
    (put_by (IsLongRenderedOf (Told Words) c.args.recording.now)
    c.long_rendered_answer_of.result c.put_answer.result c.args.out.now c.put_answer.new.out c.put_answer.new.len
    c.long_rendered_answer_of.ensures c.put_answer.ensures.given c.put_answer.ensures.written
    c.put_answer.ensures.error c.put_answer.ensures.nothing) zero

pub returns-clause-violation : goal.returns-clause-violation
returns-clause-violation c two =
    put_2 outcome.Ordered refl (long_rendered_of_outcome (Told Words) c.args.recording.now)
    (put_by (IsLongRenderedOf (Told Words) c.args.recording.now)
    c.long_rendered_answer_of.result c.put_answer.result c.args.out.now c.put_answer.new.out c.put_answer.new.len
    c.long_rendered_answer_of.ensures c.put_answer.ensures.given c.put_answer.ensures.written
    c.put_answer.ensures.error c.put_answer.ensures.nothing) two

pub returns-clause-refused : goal.returns-clause-refused
returns-clause-refused c three =
    put_3 outcome.Ordered refl (long_rendered_of_outcome (Told Words) c.args.recording.now)
    (put_by (IsLongRenderedOf (Told Words) c.args.recording.now)
    c.long_rendered_answer_of.result c.put_answer.result c.args.out.now c.put_answer.new.out c.put_answer.new.len
    c.long_rendered_answer_of.ensures c.put_answer.ensures.given c.put_answer.ensures.written
    c.put_answer.ensures.error c.put_answer.ensures.nothing) three
