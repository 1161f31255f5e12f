use Rattle.texts.specs.TextLaws.{two_last}
use Rattle.drawing.specs.Gaps.{gap_start, gap_end}
use Rattle.drawing.proofs.gaps.put_gap_edges.Goals as goal

pub returns : goal.returns
returns c = two_last _ _ _ _ (gap_start c.args.first c.args.second) (gap_end c.args.second) c.in_ok-write.ensures
    c.write-2.ensures
