use Rattle.std.proofs.Common.{◌≡◌, ◌<◌, ℕ, [], map, take, length, get_or}
use Rattle.values.specs.Values.{unsourced}
use Rattle.completion.specs.Performed.{AreSourced}
use Rattle.completion.proofs.sourced.cores_with_sources.Given as goal

abbrev pub invariant-loop-core : goal.invariant-loop-core
invariant-loop-core l = record {
  size : length l.made.items ≡ l.core;
  rest : map (λ es. map unsourced es) (map (λ v. v.items) l.made.items)
      ≡ take l.core (map (λ es. map unsourced es) l.values.cores);
  sources : (c : ℕ) → c < l.core → AreSourced l.values l.sources c (get_or (map (λ v. v.items) l.made.items) c []);
}
