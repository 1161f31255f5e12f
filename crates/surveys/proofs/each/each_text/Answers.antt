use Rattle.surveys.proofs.EachText.{each_more}
use Rattle.surveys.proofs.each.each_text.Goals as goal

pub loop-i-preserved : goal.loop-i-preserved
loop-i-preserved c =
    each_more c.args.first c.loop-i.i c.args.findings.now _ c.loop-i.out.items c.put_each.new.out.items
    c.loop-i-test.true c.loop-i.invariant c.in_ok-put_each.ensures
