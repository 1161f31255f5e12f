use Rattle.std.proofs.Common.{◌≡◌, ◌<◌, ◌-◌, ◌^◌, ℕ, arith, subst}
use Rattle.completion.specs.Situation.{number_of}
use Rattle.completion.specs.Search.{IsForced}
use Rattle.completion.proofs.early.is_before.Goals as goal

pub returns-clause-forced : goal.returns-clause-forced
returns-clause-forced c test =
    let small : c.number_of.result < 2 ^ 64 - 1 = c.has.ensures.first test in
    let same : c.number_of.result ≡ number_of c.args.values.now.cores c.args.core c.args.place =
    omega (arith, c.number_of.ensures, small) in
    subst (λ (k : ℕ). IsForced c.args.values.now k c.args.number) same
    (c.requires.forced c.number_of.result c.args.number (c.has.ensures.pair test))
