use Rattle.recording.specs.declared.size.RecordingSize.TheVariants.{Short}
use Rattle.answers.proofs.rendering.picture_text.Goals as goal

pub judge_alone-requires : goal.judge_alone-requires
judge_alone-requires c = ((rw c.in-Some.is at c.in_ok-rest.ensures.size) Short c.requires.short).within.few_events
