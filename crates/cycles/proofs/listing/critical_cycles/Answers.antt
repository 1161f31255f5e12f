use Rattle.std.proofs.Common.{◌≡◌, ◌∙◌, ◌+◌, ◌++◌, ◌/◌, ℕ, suc, List, ap, arith, map}
use Rattle.std.specs.List.{flat_map}
use Rattle.cycles.specs.Listing.{Chain, chains, cycle_of, extended}
use Rattle.cycles.proofs.Ranges.{made_step}
use Rattle.cycles.proofs.listing.critical_cycles.Goals as goal

pub loop-preserved : goal.loop-preserved
loop-preserved c =
    let n : ℕ = c.args.events in
    let k : ℕ = c.loop.counter in
    let next : suc k ≡ k + 1 = omega arith in
    let more : c.in_ok-chains-2.chains.items ≡ chains n (suc k) =
    c.in_ok-chains-2.ensures
    ∙ ap (λ (l : List Chain). flat_map extended l) (c.deref.ensures.value ∙ c.loop.invariant.so_far) in record {
      so_far = more ∙ ap (chains n) next;
      rest = made_step (λ j. flat_map cycle_of (chains n (suc j))) k (n / 2) (map (λ v. v.items) c.loop.found.items) _ _
          c.loop-test.true c.loop.invariant.rest (c.in_ok-list_cycles.ensures
          ∙ ap (λ (l : List Chain). map (λ v. v.items) c.loop.found.items ++ flat_map cycle_of l)
          (c.deref-in-loop.ensures.value ∙ more));
    }
