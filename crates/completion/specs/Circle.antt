-- Circles of events, of which each comes before the next.
use Rattle.std.specs.Prelude.{◌≡◌, ◌≢◌, ℕ, List, [], ◌∷◌}
use Rattle.std.specs.Prelude.{All}
use Rattle.values.specs.Values.{Values, AreAllowed}
use Rattle.completion.specs.declared.cause.Link.{Link}
use Rattle.completion.specs.Inferred.{IsLink}

-- links that follow one another lead from event e to event f
abbrev pub Lead : ℕ → List Link → ℕ → Type 0
Lead e [] f = e ≡ f
Lead e (l ∷ ls) f = (l.first ≡ e) × Lead l.second ls f

-- there are some, and they lead from an event back to it
abbrev pub IsRound : List Link → Type 0
IsRound ls = (ls ≢ []) × ((e : ℕ) × Lead e ls e)

-- links that have their causes and lead round
pub record IsCircle (v : Values) (ls : List Link) : Type 0 where
  pub round : IsRound ls
  pub causes : All (IsLink v) ls

-- where there is one, nothing completes the values
abbrev pub NoCircleIsAllowed : Values → List Link → Type 0
NoCircleIsAllowed v ls = IsCircle v ls → ¬ AreAllowed v
