use Rattle.std.proofs.Common.{◌≡◌, ◌∙◌, [], max, map, drop, ap, sym, arith, List, Vec, Global, drop_of_length-le}
use Rattle.recording.specs.declared.event.Event.{Event}
use Rattle.replay.specs.Steps.{most_stores}
use Rattle.replay.proofs.MostStores.{most_of_one, most_one}
use Rattle.replay.proofs.stores.most_stores.Goals as goal

pub loop-events-init : goal.loop-events-init
loop-events-init c = record {
  least = omega arith;
  greatest =
      most_of_one (map (λ v. v.items) c.cores-lists.result.now);
}

pub returns : goal.returns
returns c =
    let lists : List (Vec Event Global) = c.cores-lists.result.now in
    let none : drop c.loop-events.events-index lists ≡ [] =
    drop_of_length-le lists c.loop-events-test.false in
    sym (most_one c.loop-events.most c.loop-events.invariant.least)
    ∙ (ap (λ (l : List (Vec Event Global)). max c.loop-events.most
    (most_stores (map (λ (v : Vec Event Global). v.items) l))) (sym none)
    ∙ (c.loop-events.invariant.greatest ∙ ap most_stores c.cores-lists.ensures))
