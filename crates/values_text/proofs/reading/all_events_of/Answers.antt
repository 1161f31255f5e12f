use Rattle.std.proofs.Common.{◌∙◌, map, ap}
use Rattle.recorder.proofs.Each.{vector_more}
use Rattle.values_text.proofs.Walks.{lists_of, made_more}
use Rattle.values_text.proofs.reading.all_events_of.Goals as goal

pub loop-known-preserved : goal.loop-known-preserved
loop-known-preserved c =
    made_more (λ p. p.0) c.args.cores.now c.loop-known.known-index c.known-item.result
    (lists_of c.loop-known.events.items) (lists_of c.push.new.self.items) _ c.in_ok-core.core.items
    c.loop-known-test.true c.known-item.is (c.in_ok-core.ensures ∙ ap (map (λ p. p.0)) c.as_slice.ensures.value)
    (vector_more c.loop-known.events.items c.push.new.self.items c.in_ok-core.core c.in_ok-push.ensures.items)
    c.loop-known.invariant
