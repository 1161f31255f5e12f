use Rattle.std.proofs.Common.{◌≡◌, ◌<◌, ℕ, Option, true, false}
use Rattle.completion.specs.Part.{IsAmong, MayFeed}
use Rattle.completion.proofs.Chosen.{IsFedBelow}
use Rattle.completion.proofs.determined.is_fed_once.Given as goal

abbrev pub invariant-loop-w : goal.invariant-loop-w
invariant-loop-w l = record {
  none : l.found ≡ false → (s : Option ℕ) → IsAmong (λ w. w < l.w) s → ¬ MayFeed l.values l.e s;
  some : l.found ≡ true → IsFedBelow l.values l.e l.w;
  one : (s t : Option ℕ) → IsAmong (λ w. w < l.w) s → IsAmong (λ w. w < l.w) t → MayFeed l.values l.e s
      → MayFeed l.values l.e t → s ≡ t;
}
