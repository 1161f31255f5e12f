use Rattle.long.proofs.linking.Linked.put_event.Goals as goal

pub returns-clause-here : goal.returns-clause-here
returns-clause-here c =
    let n = c.args.event.now.number in
    let others = c.in_ok-put_other.ensures in
    let sources = c.in_ok-put_source.ensures in
    let nexts = c.in_ok-put_next.ensures in
    let newers = c.in_ok-put_newer.ensures in
    record {
      store = λ d last forced. newers.kept d n (nexts.kept d n (sources.kept d n (others.kept d n
          (c.in_ok-put_store.ensures.here d last forced))));
      other = λ d last. newers.kept d n (nexts.kept d n (sources.kept d n (others.here d last)));
      source = λ d from. newers.kept d n (nexts.kept d n (sources.here d from));
      next = λ w is. newers.kept n w (nexts.here w is);
      newer = newers.here;
    }
