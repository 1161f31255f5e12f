use Rattle.completion.proofs.circle.shortest_round.Goals as goal

pub loop-event-preserved : goal.loop-event-preserved
loop-event-preserved c =
    let v = c.args.values.now in
    c.shorter-shortest.ensures v c.loop-event.invariant (c.in_ok-round.ensures v c.requires.links)
