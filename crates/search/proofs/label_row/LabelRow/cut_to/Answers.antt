use Rattle.std.proofs.Common.{◌≡◌, ◌<◌, ℕ, List, length, sym, subst, arith}
use Rattle.std.specs.Arc.{arc_value}
use Rattle.std.specs.Vec.{with_items}
use Rattle.std.proofs.lemmas.List.{with_items_is}
use Rattle.relations.specs.Relation.{Table, Related}
use Rattle.search.specs.Cycles.{IsLeastLength}
use Rattle.search.specs.SourceRow.{SourceRow}
use Rattle.search.specs.Slots.{IsCutAt}
use Rattle.search.proofs.Shortened.{cut_labelled}
use Rattle.search.proofs.label_row.LabelRow.cut_to.Goals as goal

pub invariant_of-self : goal.invariant_of-self
invariant_of-self c =
    let r = c.self.inside in
    let cut = c.cut_at.new.row in
    let is : (with_items r.numbers cut).items ≡ cut = with_items_is r.numbers cut (omega arith) in
    let within = subst (λ (t : Table). (e f : ℕ) → Related t e f → (e < length t) × (f < length t))
    c.deref.ensures c.sound.ensures.within in
    cut_labelled (arc_value r.relation) r.source r.cap c.args.cap r.numbers.items (with_items r.numbers cut).items
    within c.self.invariant
    (subst (λ (l : SourceRow). IsLeastLength (Related l.relation) c.args.cap) (sym c.self.view_is) c.requires)
    (subst (λ (row : List ℕ). IsCutAt c.args.cap r.numbers.items row) (sym is)
    (subst (λ (row : List ℕ). IsCutAt c.args.cap row cut) c.as_mut_slice.ensures.value c.cut_at.ensures))
