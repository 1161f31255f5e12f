-- What answers and verdicts say holds.
use Rattle.recording.specs.Execution.{Execution}
use Rattle.verdicts.specs.declared.verdict.Verdict.{Verdict}
use Rattle.verdicts.specs.declared.verdict.Verdict.TheVariants as verdict
use Rattle.verdicts.specs.Verified.{Verifies}
use Rattle.long.specs.declared.answer.LongAnswer.{LongAnswer}
use Rattle.long.specs.declared.answer.LongAnswer.TheVariants.{Order, Overlook, Cycle}
use Rattle.long.specs.Answer.{IsLongAnswer, IsWitness, without_labels}

-- what is answered to a recording holds of it
pub answer_holds : (x : Execution) (answer : LongAnswer) → IsLongAnswer x answer → IsWitness x answer
answer_holds x (Order m) is = is.order
answer_holds x (Overlook l s) is = is.0.overlooks
answer_holds x (Cycle c) is = is.0.cycle

-- and so does what passes the check of a verdict, without its labels
pub verdict_holds : (x : Execution) (v : Verdict) → Verifies x v → IsWitness x (without_labels v)
verdict_holds x (verdict.Ordered m) is = is
verdict_holds x (verdict.Overlook l s) is = is
verdict_holds x (verdict.Cycle c) is = is.cyclic
