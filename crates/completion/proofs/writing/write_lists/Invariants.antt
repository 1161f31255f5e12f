use Rattle.std.proofs.Common.{◌≡◌, ◌<◌, ℕ, [], length, map, get_or}
use Rattle.completion.specs.Performed.{writers}
use Rattle.completion.proofs.writing.write_lists.Given as goal

abbrev pub invariant-loop-address : goal.invariant-loop-address
invariant-loop-address l = record {
  count : length l.lists.items ≡ l.address;
  lists : (a : ℕ) → a < l.address → get_or (map (λ v. v.items) l.lists.items) a [] ≡ writers l.values a l.order;
}
