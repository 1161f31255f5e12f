use Rattle.std.proofs.Common.{◌∙◌, ℕ, Option, List, length, sym, ap, arith, subst}
use Rattle.relations.specs.Relation.{Table}
use Rattle.search.specs.SourceRow.{SourceRow, AreLeastRows}
use Rattle.search.specs.Bound.{lengths_of}
use Rattle.search.specs.Slots.{AreSlotsFilled}
use Rattle.search.proofs.alone.rows_alone.Goals as goal

pub fill_rows-requires-clause-slots : goal.fill_rows-requires-clause-slots
fill_rows-requires-clause-slots c κs = λ v d at.
    absurd (omega (arith, at, ap (λ (l : List (Option SourceRow)). length l) c.new.ensures.items))

pub cut_by-requires-clause-seat : goal.cut_by-requires-clause-seat
cut_by-requires-clause-seat c = (c.fill_rows.ensures.seat.0, c.fill_rows.ensures.seat.1 ∙ sym c.deref-table.ensures)

pub cut_by-requires-clause-rows : goal.cut_by-requires-clause-rows
cut_by-requires-clause-rows c =
    subst (λ (t : Table). AreSlotsFilled t (lengths_of c.fill_rows.new.seat) (length t) c.in_ok-rows.rows.items)
    (sym c.deref-table.ensures) c.in_ok-rows.ensures.rows

pub returns : goal.returns
returns c =
    subst (λ (t : Table). (cap : Option ℕ) × AreLeastRows t cap c.cut_by.result.items) c.deref-table.ensures
    c.cut_by.ensures.rows
