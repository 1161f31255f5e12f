use Rattle.std.proofs.Common.{List, Option, ℕ, None, get_or, sym, subst, ap, ◌∙◌}
use Rattle.completion.specs.declared.sources.Source.{Source}
use Rattle.completion.specs.Sources.{IsFoundSource}
use Rattle.completion.proofs.FoundSources.{found_known}
use Rattle.completion.proofs.sources.source_of.Goals as goal

pub returns-in-Some : goal.returns-in-Some
returns-in-Some c = subst (λ (s : Source). IsFoundSource c.args.values.now c.args.read c.args.address s) (sym c.known_source.ensures)
    (found_known c.args.values.now c.args.read c.args.address c.in-Some.source
    (ap (λ (l : List (Option (Option ℕ))). get_or l c.args.read None) (sym c.sources-sources.ensures) ∙ c.in-Some.is))
