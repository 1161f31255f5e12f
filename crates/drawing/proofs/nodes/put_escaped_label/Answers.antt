use Rattle.std.proofs.lemmas.List.{take_more}
use Rattle.drawing.specs.Nodes.{escaped}
use Rattle.texts.specs.TextLaws.{next_item}
use Rattle.drawing.proofs.nodes.put_escaped_label.Goals as goal

pub loop-byte-preserved : goal.loop-byte-preserved
loop-byte-preserved c = next_item escaped c.args.label.now c.loop-byte.byte-index _ _ _ _
    (take_more c.args.label.now c.loop-byte.byte-index _ c.loop-byte-test.true) c.loop-byte.invariant
    c.in_ok-put_escaped.ensures
