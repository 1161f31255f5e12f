use Rattle.std.proofs.Common.{subst, sym}
use Rattle.long.specs.declared.answer.LongAnswer.{LongAnswer}
use Rattle.long.specs.Answer.{IsWitness}
use Rattle.long.specs.AnswerLaws.{verdict_holds}
use Rattle.answers.proofs.rendering.told_text.Goals as goal

pub explanation_text-requires : goal.explanation_text-requires
explanation_text-requires c = subst (λ (a : LongAnswer). IsWitness c.args.recording.now a) (sym c.without_labels.ensures)
    (verdict_holds c.args.recording.now c.args.verdict c.requires.verified)

pub whole_drawing-requires : goal.whole_drawing-requires
whole_drawing-requires c = subst (λ (a : LongAnswer). IsWitness c.args.recording.now a) (sym c.without_labels-in-WholePicture.ensures)
    (verdict_holds c.args.recording.now c.args.verdict c.requires.verified)
