use Rattle.std.proofs.Common.{◌≡◌, ℕ, Option, Some, List, length, Vec, Global, sym, ap, subst, ◌∙◌}
use Rattle.relations.specs.Relation.{Related}
use Rattle.relations.specs.Cycle.{AreExactRows}
use Rattle.labels.specs.Certified.{lists_of}
use Rattle.search.specs.SourceRow.{SourceRow, AreLeastRows}
use Rattle.search.proofs.Labels.{none_least, some_least, some_exact}
use Rattle.search.proofs.certified.certificate_of.Goals as goal

pub returns-in_default-clause-least : goal.returns-in_default-clause-least
returns-in_default-clause-least c =
    let t = c.args.relation.now in
    let h : (cap : Option ℕ) × AreLeastRows t cap c.args.rows.items = c.requires in
    none_least t h.0 c.args.rows.items (c.in_default.ensures t h.0
    (subst (λ (rows : List SourceRow). AreLeastRows t h.0 rows) (sym c.deref.ensures.value) h.1)) h.1

pub least_cycle-requires-clause-rows : goal.least_cycle-requires-clause-rows
least_cycle-requires-clause-rows c =
    let t = c.args.relation.now in
    let h : (cap : Option ℕ) × AreLeastRows t cap c.args.rows.items = c.requires in
    let is : Some c.in-Some.size ≡ h.0 = c.in-Some.ensures t h.0
    (subst (λ (rows : List SourceRow). AreLeastRows t h.0 rows) (sym c.deref.ensures.value) h.1) in
    let lists : lists_of c.deref-2.result.now ≡ lists_of c.in_ok-lists.lists.items =
    ap (λ (vs : List (Vec ℕ Global)). lists_of vs) c.deref-2.ensures.value in
    some_exact t h.0 c.in-Some.size c.args.rows.items (lists_of c.deref-2.result.now) is
    (lists ∙ c.in_ok-lists.ensures) h.1

pub least_cycle-requires-clause-size : goal.least_cycle-requires-clause-size
least_cycle-requires-clause-size c =
    let t = c.args.relation.now in
    let h : (cap : Option ℕ) × AreLeastRows t cap c.args.rows.items = c.requires in
    let is : Some c.in-Some.size ≡ h.0 = c.in-Some.ensures t h.0
    (subst (λ (rows : List SourceRow). AreLeastRows t h.0 rows) (sym c.deref.ensures.value) h.1) in
    some_least t h.0 c.in-Some.size c.args.rows.items is h.1

pub returns-clause-rows : goal.returns-clause-rows
returns-clause-rows c =
    let t = c.args.relation.now in
    let h : (cap : Option ℕ) × AreLeastRows t cap c.args.rows.items = c.requires in
    let is : Some c.in-Some.size ≡ h.0 = c.in-Some.ensures t h.0
    (subst (λ (rows : List SourceRow). AreLeastRows t h.0 rows) (sym c.deref.ensures.value) h.1) in
    subst (λ (k : ℕ). AreExactRows (Related t) (length t) k (lists_of c.in_ok-lists.lists.items))
    (sym c.in_ok-cycle.ensures.size)
    (some_exact t h.0 c.in-Some.size c.args.rows.items (lists_of c.in_ok-lists.lists.items) is
    c.in_ok-lists.ensures h.1)
