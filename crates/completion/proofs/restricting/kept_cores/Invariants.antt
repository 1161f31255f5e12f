use Rattle.std.proofs.Common.{◌≡◌, ◌<◌, ℕ, [], length, get_or, map}
use Rattle.completion.specs.Part.{events_on}
use Rattle.completion.proofs.restricting.kept_cores.Given as goal

abbrev pub invariant-loop-core : goal.invariant-loop-core
invariant-loop-core l = record {
  count : length l.cores.items ≡ l.core;
  events : (c : ℕ) → c < l.core → get_or (map (λ v. v.items) l.cores.items) c [] ≡ events_on l.values l.kept c;
}
