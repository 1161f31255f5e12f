use Rattle.std.proofs.lemmas.List.{take_more}
use Rattle.texts.specs.TextLaws.{next_item}
use Rattle.answers.specs.Reduced.{label_line}
use Rattle.answers.proofs.reduced.put_label_lines.Goals as goal

pub loop-number-preserved : goal.loop-number-preserved
loop-number-preserved c = next_item (label_line c.args.labels.now) c.args.events.now c.loop-number.number-index _ _ _ _
    (take_more c.args.events.now c.loop-number.number-index _ c.loop-number-test.true) c.loop-number.invariant
    c.in_ok-put_label_line.ensures
