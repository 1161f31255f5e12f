-- What outcomes explain.
use Rattle.std.proofs.Common.{◌≡◌, List, true, sym, subst}
use Rattle.std.specs.List.{Any, Contains}
use Rattle.std.proofs.lemmas.List.Folds.{Any-from_list_any, list_any_at}
use Rattle.outcomes.specs.declared.observed.Observation.{Observation}
use Rattle.outcomes.specs.Outcome.{IsAllowed, Outcome}
use Rattle.outcomes.specs.Observed.{ExplainsAllowed, shows_all}

-- all outcomes of a program explain what TSO allows, and nothing else
pub explained : (os : List Outcome) (seen : List Observation) → ExplainsAllowed os seen
explained os seen p are = (
  λ some.
      let found : Any (λ o. shows_all o seen ≡ true) os = Any-from_list_any (λ o. shows_all o seen) os some in (
        found.1,
        subst (IsAllowed p) found.3 (are.allowed found.0 found.1 found.2),
        found.4,
      ),
  λ allowed.
      let there : Contains os allowed.0 = are.complete allowed.0 allowed.1 in
      list_any_at (λ o. shows_all o seen) os there.0 allowed.0 there.1
      (subst (λ (o : Outcome). shows_all o seen ≡ true) (sym there.2) allowed.2),
)
