use Rattle.std.proofs.Common.{◌≡◌, ◌<◌, ◌∙◌, List, [], ◌∷◌, ap, length, arith}
use Rattle.indexmap.specs.IndexSet.{insert_key}
use Rattle.situations.specs.Row.{SeenRows, same_situation}
use Rattle.situations.specs.Situation.{Situation}
use Rattle.outcomes.proofs.Grown.{first_reached, first_order, one_more, reachable, grown_length}
use Rattle.outcomes.proofs.seen.search.Goals as goal

pub loop-at-init : goal.loop-at-init
loop-at-init c =
    let row : Situation = c.in_ok-first.first in
    let keys : List Situation = c.insert.new.self.keys in
    let one : keys ≡ row ∷ [] =
    ap (λ (z : SeenRows). z.keys) c.in_ok-insert.ensures
    ∙ ap (λ (z : SeenRows). insert_key same_situation z.keys row) c.in_ok-seen.ensures in
    record {
      reached = first_reached c.args.program.now keys row one c.in_ok-first.ensures;
      order = first_order c.args.program.now keys row one c.in_ok-first.ensures;
      within = omega arith;
      closed = λ i r low. absurd (omega (arith, low));
    }

pub returns-then-at-len-clause-found : goal.returns-then-at-len-clause-found
returns-then-at-len-clause-found c =
    let old = c.loop-at.invariant in
    reachable c.args.program.now c.loop-at.seen.keys old.reached old.order
    (λ i r inside at. old.closed i r (omega (arith, inside, c.if-at-len.true, c.len.ensures)) at)

pub returns-then-len-limit-clause-found : goal.returns-then-len-limit-clause-found
returns-then-len-limit-clause-found c =
    let old = c.loop-at.invariant in
    reachable c.args.program.now c.loop-at.seen.keys old.reached old.order
    (λ i r inside at. old.closed i r
    (omega (arith, inside, c.if-len-limit.true, c.len-2.ensures, c.loop-at-test.false)) at)

pub loop-at-preserved : goal.loop-at-preserved
loop-at-preserved c =
    let old = c.loop-at.invariant in
    let was : List Situation = c.loop-at.seen.keys in
    let new : List Situation = c.expand.new.seen.keys in
    let inside : c.loop-at.at < length was = omega (arith, old.within, c.if-at-len.false, c.len.ensures) in
    record {
      reached = c.in_ok-expand.ensures.reached;
      order = c.in_ok-expand.ensures.order;
      within = omega (arith, inside, grown_length was new c.in_ok-expand.ensures.grows);
      closed = one_more c.args.program.now.cores was new c.loop-at.at inside c.in_ok-expand.ensures.grows old.closed
          c.in_ok-expand.ensures.next;
    }
