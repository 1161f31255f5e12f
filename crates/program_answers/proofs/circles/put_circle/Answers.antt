use Rattle.std.proofs.lemmas.List.{take_more}
use Rattle.texts.specs.TextLaws.{next_item}
use Rattle.program_answers.specs.Circles.{link_line}
use Rattle.program_answers.proofs.circles.put_circle.Goals as goal

pub loop-link-preserved : goal.loop-link-preserved
loop-link-preserved c = next_item link_line c.args.circle.now c.loop-link.link-index _ _ _ _
    (take_more c.args.circle.now c.loop-link.link-index _ c.loop-link-test.true) c.loop-link.invariant
    c.in_ok-put_link.ensures
