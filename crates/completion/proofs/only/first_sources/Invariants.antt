use Rattle.std.proofs.Common.{◌≡◌, ◌<◌, ℕ, None, length, get_or}
use Rattle.completion.specs.Only.{IsFeeder}
use Rattle.completion.proofs.only.first_sources.Given as goal

abbrev pub invariant-loop-e : goal.invariant-loop-e
invariant-loop-e l = record {
  size : length l.sources.items ≡ l.e;
  feeders : (e : ℕ) → e < l.e → IsFeeder l.values e (get_or l.sources.items e None);
}
