use Rattle.std.proofs.Common.{inl, inr, Bool, List, subst}
use Rattle.completion.specs.Pairs.{HasPair}
use Rattle.completion.proofs.forcing.sees.Goals as goal

pub returns-then-is_own : goal.returns-then-is_own
returns-then-is_own c test = inr (c.is_own.ensures.holds c.if-is_own.true)

pub returns-else-is_own : goal.returns-else-is_own
returns-else-is_own c test = inl (c.requires.inferred.shown c.args.write c.args.read.number
    (subst (λ (rows : List (List Bool)). HasPair rows c.args.write c.args.read.number) c.deref.ensures.value
    (c.has.ensures.pair test)))
