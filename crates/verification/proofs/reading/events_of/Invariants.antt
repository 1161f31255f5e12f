use Rattle.std.proofs.Common.{◌≡◌, ℕ, List, length, take}
use Rattle.verification.specs.Spelled.{pair_numbers}
use Rattle.verification.proofs.reading.events_of.Given as goal

abbrev pub invariant-loop-i : goal.invariant-loop-i
invariant-loop-i l = (c : List ℕ) → length c ≡ l.size → l.numbers ≡ pair_numbers c l.size → l.events.items ≡ take l.i c
