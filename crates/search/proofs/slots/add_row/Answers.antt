use Rattle.std.proofs.Common.{Option, IfSome, subst}
use Rattle.std.specs.Arc.{arc_value}
use Rattle.search.specs.SourceRow.{SourceRow}
use Rattle.search.specs.Bound.{lengths_of}
use Rattle.search.specs.Slots.{IsRowFrom}
use Rattle.search.proofs.Collected.{filled_more}
use Rattle.search.proofs.slots.add_row.Goals as goal

pub returns-in-Some-clause-rows : goal.returns-in-Some-clause-rows
returns-in-Some-clause-rows g c =
    let t = arc_value c.args.relation.now in
    let lengths = lengths_of c.args.seat.now in
    filled_more t lengths lengths c.args.source c.args.rows.now.items c.push.new.self.items c.in-Some.row
    (λ k h. h) c.requires.rows
    (subst (λ (o : Option SourceRow). IfSome o (IsRowFrom t lengths c.args.source)) c.in-Some.is c.requires.slot)
    c.in_ok-push.ensures.items

pub returns-clause-rows : goal.returns-clause-rows
returns-clause-rows g c =
    let t = arc_value c.args.relation.now in
    let after = lengths_of c.row_for-made.new.seat in
    let row : IsRowFrom t after c.args.source c.in_ok-made.field-0 = record {
      shares = c.in_ok-made.ensures.relation;
      from = c.in_ok-made.ensures.source;
      covers = c.in_ok-made.ensures.covers;
    } in
    filled_more t (lengths_of c.args.seat.now) after c.args.source c.args.rows.now.items c.push-2.new.self.items
    c.in_ok-made.field-0 c.row_for-made.ensures.kept c.requires.rows row c.in_ok-push-2.ensures.items
