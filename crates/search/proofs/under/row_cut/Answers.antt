use Rattle.std.proofs.Common.{◌≡◌, ◌∙◌, ℕ, Bool, List, length, ap, subst}
use Rattle.std.specs.Option.{unwrap_or}
use Rattle.relations.specs.Relation.{Related}
use Rattle.relations.specs.Cycle.{IsExactRow}
use Rattle.bitrow.specs.Rows.{Marked}
use Rattle.search.specs.Cycles.{IsNearest}
use Rattle.search.proofs.under.row_cut.Goals as goal

pub returns-clause-exact : goal.returns-clause-exact
returns-clause-exact c =
    let n = length c.args.relation.now in
    let most : c.unwrap_or-most.result ≡ unwrap_or c.args.cap n = c.unwrap_or-most.ensures
    ∙ ap (λ (k : ℕ). unwrap_or c.args.cap k) c.len.ensures in
    subst (λ (k : ℕ). IsExactRow (Related c.args.relation.now) n k c.args.source c.row_with.new.labels) most
    (subst (λ (m : ℕ). IsExactRow (Related c.args.relation.now) m c.unwrap_or-most.result c.args.source
    c.row_with.new.labels) c.successors.ensures.len
    (subst (λ (sets : List (List Bool)). IsExactRow (Marked sets) (length c.successors.result.now)
    c.unwrap_or-most.result c.args.source c.row_with.new.labels) c.successors.ensures.sets
    c.row_with.ensures.exact))

pub returns-clause-nearest : goal.returns-clause-nearest
returns-clause-nearest c =
    let n = length c.args.relation.now in
    let most : c.unwrap_or-most.result ≡ unwrap_or c.args.cap n = c.unwrap_or-most.ensures
    ∙ ap (λ (k : ℕ). unwrap_or c.args.cap k) c.len.ensures in
    subst (λ (k : ℕ). IsNearest (Related c.args.relation.now) c.args.source c.row_with.new.labels k
    c.row_with.result) most
    (subst (λ (sets : List (List Bool)). IsNearest (Marked sets) c.args.source c.row_with.new.labels
    c.unwrap_or-most.result c.row_with.result) c.successors.ensures.sets c.row_with.ensures.nearest)
