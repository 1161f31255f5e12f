use Rattle.std.proofs.Common.{rules, ap}
use Rattle.std.specs.Cmp.{IsTotalOrder}
use Rattle.std.specs.Cmp.Rules.{comparing}
use Rattle.std.specs.Ordering.{is_lt}
use Rattle.std.proofs.lemmas.List.Sorted.{answers_always, ranks_by}
use Rattle.histograms.specs.Histogram.{Bar, ranked}
use Rattle.histograms.proofs.histogram.Histogram.rank.Goals as goal

ranks : IsTotalOrder ranked
ranks = search (comparing, rules)

pub returns-clause-ranked : goal.returns-clause-ranked
returns-clause-ranked c = c.in_ok-sort_by.ensures.sorted (λ a b. is_lt (ranked a b))
    (ranks_by ranks (λ (b : Bar). b)) (answers_always _ _ _ (λ f a r f' k. ap is_lt k.met.0))
