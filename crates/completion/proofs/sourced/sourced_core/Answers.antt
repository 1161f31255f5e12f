use Rattle.std.proofs.Common.{◌≡◌, ◌+◌, ◌++◌, ◌∷◌, [], List, map, drop, length, length-append, arith, sym, subst}
use Rattle.recording.specs.declared.event.Event.{Event}
use Rattle.values.specs.Values.{unsourced}
use Rattle.completion.specs.Performed.{AreSourced}
use Rattle.completion.proofs.SourcedEvents.{rest_more, sourced_more}
use Rattle.completion.proofs.sourced.sourced_core.Goals as goal

pub loop-i-preserved : goal.loop-i-preserved
loop-i-preserved c =
    let old : List Event = c.loop-i.made.items in
    let x : Event = c.with_source.result in
    let is : c.push.new.self.items ≡ old ++ x ∷ [] = c.in_ok-push.ensures.items in
    subst (λ (l : List Event). record {
      size : length l ≡ c.loop-i.i + 1;
      rest : map unsourced l ++ map unsourced (drop (c.loop-i.i + 1) c.events-events.result.now)
          ≡ map unsourced c.events-events.result.now;
      sources : AreSourced c.args.values.now c.args.sources.now c.args.core l;
    }) (sym is) (record {
      size = omega (arith, length-append old (x ∷ []), c.loop-i.invariant.size);
      rest = rest_more old c.events-events.result.now c.loop-i.i x _ c.loop-i-test.true c.with_source.ensures.rest
          c.loop-i.invariant.rest;
      sources = sourced_more c.args.values.now c.args.sources.now c.args.core c.loop-i.i c.number_of.result old x _
          c.source_at-source.result c.loop-i.invariant.size c.loop-i.invariant.sources c.with_source.ensures.rest
          c.with_source.ensures.source c.source_at-source.ensures c.number_of.ensures;
    })
