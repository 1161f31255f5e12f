use Rattle.std.proofs.Common.{◌∙◌, sym}
use Rattle.recorder.proofs.Each.{front_start, front_more, front_none, front_all}
use Rattle.recorder.proofs.reading.items_in.Goals as goal

pub loop-value-init : goal.loop-value-init
loop-value-init g c = front_start c.new-found.result.items _ c.new-found.ensures.items

pub loop-value-preserved : goal.loop-value-preserved
loop-value-preserved g c =
    front_more g.K.Kind.held c.args.list.now c.loop-value.value-index c.value-item.result c.in-Some.item
    c.loop-value.found.items c.push.new.self.items c.loop-value-test.true c.value-item.is
    (sym c.read.ensures ∙ c.in-Some.is) c.in_ok-push.ensures.items c.loop-value.invariant

pub returns-in_default : goal.returns-in_default
returns-in_default g c =
    front_none g.K.Kind.held c.args.list.now c.loop-value.value-index c.value-item.result c.loop-value.found.items
    c.loop-value-test.true c.value-item.is (sym c.read.ensures ∙ c.in_default.is) c.loop-value.invariant

pub returns : goal.returns
returns g c = front_all g.K.Kind.held c.args.list.now c.loop-value.value-index c.loop-value.found.items
    c.loop-value-test.false c.loop-value.invariant
