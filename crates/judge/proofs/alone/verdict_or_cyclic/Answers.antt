use Rattle.judge.proofs.alone.verdict_or_cyclic.Goals as goal

pub returns-in_ok-of-in-Cyclic-clause-cyclic : goal.returns-in_ok-of-in-Cyclic-clause-cyclic
returns-in_ok-of-in-Cyclic-clause-cyclic c =
    let found = rw c.in-Cyclic.is at c.in_ok-order.ensures in
    record {
      size = c.in_ok-of-in-Cyclic.ensures.size;
      forced = c.in_ok-of-in-Cyclic.ensures.related;
      cycle = found.1;
      no_overlook = found.2;
    }
