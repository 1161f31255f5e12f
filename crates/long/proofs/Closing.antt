-- Walks that close a cycle.
use Rattle.std.proofs.Common.{◌≡◌, ◌<◌, ◌≤◌, ◌+◌, ◌-◌, ℕ, List, get_or, length, arith, sym, subst}
use Rattle.recording.specs.Execution.{Execution}
use Rattle.relations.specs.Cycle.{IsCycle}
use Rattle.relations.specs.Forced.{Forced}
use Rattle.long.specs.Walks.{IsClosedStack}
use Rattle.long.proofs.Lists.{cycle_of_items}

-- the events of a stack from the last one back to one that is forced before it are a cycle
pub taken_cycle : (x : Execution) (stack c : List ℕ) (first : ℕ) → IsClosedStack x stack first → 0 < length c
    → length c ≤ length stack → ((k : ℕ) → k < length c → get_or c k 0 ≡ get_or stack (length stack - 1 - k) 0)
    → get_or c (length c - 1) 0 ≡ first → IsCycle (Forced x) c
taken_cycle x stack c first close some few each last = cycle_of_items (Forced x) c some
    (λ k low.
    let up : length stack - 1 - (k + 1) + 1 ≡ length stack - 1 - k = omega (arith, low, few) in
    rw (each k (omega (arith, low)), each (k + 1) low)
    (subst (λ (i : ℕ). Forced x (get_or stack i 0) (get_or stack (length stack - 1 - (k + 1)) 0)) up
    (close.chain (length stack - 1 - (k + 1)) (omega (arith, low, few)))))
    (let top : length stack - 1 ≡ length stack - 1 - 0 = omega arith in
    subst (λ (e : ℕ). Forced x e (get_or c 0 0)) (sym last)
    (subst (λ (e : ℕ). Forced x first e) (sym (each 0 some))
    (subst (λ (i : ℕ). Forced x first (get_or stack i 0)) top (close.forced (omega (arith, some, few))))))
