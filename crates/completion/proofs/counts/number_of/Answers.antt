use Rattle.std.proofs.Common.{List, length, ap}
use Rattle.recording.specs.declared.event.Event.{Event}
use Rattle.completion.proofs.Numbers.{bounded_more}
use Rattle.completion.proofs.counts.number_of.Goals as goal

pub loop-c-preserved : goal.loop-c-preserved
loop-c-preserved c = bounded_more c.args.values.now.cores c.loop-c.c c.loop-c.first c.saturating_add-first.result
    (length c.events.result.now) c.loop-c.invariant (ap (λ (l : List Event). length l) c.events.ensures)
    c.saturating_add-first.ensures
