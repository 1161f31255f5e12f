use Rattle.std.proofs.Common.{◌≡◌, ◌++◌, ℕ, List, drop, length, take}
use Rattle.verification.specs.Spelled.{Spells}
use Rattle.verification.proofs.numbers.numbers.Given as goal

-- the first of the numbers that the text spells were taken, and the others are left
abbrev pub invariant-loop-i : goal.invariant-loop-i
invariant-loop-i l = (ns later : List ℕ) → length ns ≡ l.count → Spells (ns ++ later) l.fn.rest
    → (l.numbers.items ≡ take l._i ns) × Spells (drop l._i ns ++ later) l.rest
