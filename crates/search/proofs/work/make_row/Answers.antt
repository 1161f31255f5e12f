use Rattle.std.proofs.Common.{◌≡◌, ◌<◌, ◌∙◌, ℕ, length, sym, subst}
use Rattle.std.specs.Arc.{arc_value}
use Rattle.relations.specs.Relation.{Table, Related}
use Rattle.search.specs.Bound.{Covers, lengths_of}
use Rattle.search.specs.WorkerJobs.{IsRowFor}
use Rattle.search.proofs.WorkerRows.{rows_kept, perhaps_pushed}
use Rattle.search.proofs.work.make_row.Goals as goal

pub row_for-made-requires-clause-source : goal.row_for-made-requires-clause-source
row_for-made-requires-clause-source g c =
    subst (λ (t : Table). c.source-source.result < length t) (sym c.relation.ensures.value)
    (subst (λ (v : ℕ). v < length c.args.job.relation) (sym c.source-source.ensures) c.relation.ensures.source)

pub row_for-made-requires-clause-seat : goal.row_for-made-requires-clause-seat
row_for-made-requires-clause-seat g c = (c.requires.seat.0, c.requires.seat.1 ∙ sym c.relation.ensures.value)

pub returns-clause-rows : goal.returns-clause-rows
returns-clause-rows g c =
    let t = c.args.job.relation in
    let after = lengths_of c.row_for-made.new.seat in
    let is : arc_value c.relation.result.now ≡ t = c.relation.ensures.value in
    let row : IsRowFor t after c.in-Ok.row = record {
      shares = c.in-Ok.ensures.relation ∙ is;
      covers = subst (λ (x : Table). Covers (Related x) after c.in-Ok.row.source) is
          (subst (λ (v : ℕ). Covers (Related (arc_value c.relation.result.now)) after v)
          (sym c.in-Ok.ensures.source) c.in-Ok.ensures.covers);
    } in
    perhaps_pushed (IsRowFor t after) _ c.args.rows.now.items c.push-kept.new.self.items c.in-Ok.row
    c.push-kept.ensures.items
    (rows_kept t (lengths_of c.args.seat.now) after c.args.rows.now.items c.row_for-made.ensures.kept
    c.requires.rows) row
