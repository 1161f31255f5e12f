use Rattle.std.proofs.Common.{◌≡◌, ◌++◌, ◌-◌, ◌/◌, map, suc}
use Rattle.std.specs.List.{flat_map, range_with_len}
use Rattle.cycles.specs.Listing.{chains, cycle_of, listed}
use Rattle.cycles.proofs.listing.critical_cycles.Given as goal

abbrev pub invariant-loop : goal.invariant-loop
invariant-loop l = record {
  so_far : l.chains.items ≡ chains l.events l.counter;
  rest : map (λ v. v.items) l.found.items
      ++ flat_map (λ k. flat_map cycle_of (chains l.events (suc k))) (range_with_len l.counter (l.events / 2 - l.counter))
      ≡ listed l.events;
}
