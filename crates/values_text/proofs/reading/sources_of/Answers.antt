use Rattle.std.proofs.Common.{◌∙◌, ◌++◌, map, ap}
use Rattle.values_text.proofs.Walks.{joined_more}
use Rattle.values_text.proofs.reading.sources_of.Goals as goal

pub loop-known-preserved : goal.loop-known-preserved
loop-known-preserved c =
    joined_more (λ p. p.1) c.args.cores.now c.loop-known.known-index c.known-item.result
    c.loop-known.sources.items c.push_sources.new.sources.items _ c.loop-known-test.true c.known-item.is
    (c.in_ok-push_sources.ensures ∙ ap (λ l. c.loop-known.sources.items ++ map (λ p. p.1) l) c.as_slice.ensures.value)
    c.loop-known.invariant
