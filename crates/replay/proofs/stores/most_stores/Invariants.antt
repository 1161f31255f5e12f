use Rattle.std.proofs.Common.{◌≡◌, ◌≤◌, max, map, drop}
use Rattle.replay.specs.Steps.{most_stores}
use Rattle.replay.proofs.stores.most_stores.Given as goal

abbrev pub invariant-loop-events : goal.invariant-loop-events
invariant-loop-events l = record {
  least : 1 ≤ l.most;
  greatest : max l.most (most_stores (map (λ v. v.items) (drop l.events-index l.lists))) ≡ most_stores
      (map (λ v. v.items) l.lists);
}
