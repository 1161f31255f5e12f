use Rattle.std.proofs.Common.{◌≡◌, ℕ, List, length, arith, ap, subst}
use Rattle.std.specs.Arc.{arc_value}
use Rattle.relations.specs.Relation.{Table}
use Rattle.search.specs.SourceRow.{SourceRow}
use Rattle.search.specs.Bound.{lengths_of}
use Rattle.search.specs.Slots.{AreSlotsFilled}
use Rattle.search.proofs.Collected.{slots_kept}
use Rattle.search.proofs.slots.fill_rows.Goals as goal

pub add_row-requires-clause-source : goal.add_row-requires-clause-source
add_row-requires-clause-source g c κs within = omega (
  arith,
  c.loop-number-test.true,
  c.len-number-end.ensures,
  ap (λ (t : Table). length t) c.deref-table.ensures,
)

pub add_row-requires-clause-seat : goal.add_row-requires-clause-seat
add_row-requires-clause-seat g c κs within = c.loop-number.invariant.0

pub add_row-requires-clause-slot : goal.add_row-requires-clause-slot
add_row-requires-clause-slot g c κs within = (c.take_row-slot.ensures (arc_value c.args.relation.now)
    (lengths_of c.loop-number.seat) c.loop-number.invariant.3).0

pub add_row-requires-clause-rows : goal.add_row-requires-clause-rows
add_row-requires-clause-rows g c κs within = c.loop-number.invariant.2

pub returns-in_err-add_row-clause-seat : goal.returns-in_err-add_row-clause-seat
returns-in_err-add_row-clause-seat g c = c.add_row.ensures.seat

pub returns-in_err-add_row-clause-kept : goal.returns-in_err-add_row-clause-kept
returns-in_err-add_row-clause-kept g c = λ k h. c.add_row.ensures.kept k (c.loop-number.invariant.1 k h)

pub loop-number-preserved : goal.loop-number-preserved
loop-number-preserved g c =
    let t = arc_value c.args.relation.now in
    let inv = c.loop-number.invariant in
    let before = lengths_of c.loop-number.seat in (
      c.add_row.ensures.seat,
      (λ k h. c.add_row.ensures.kept k (inv.1 k h)),
      c.in_ok-add_row.ensures.rows,
      slots_kept t before (lengths_of c.add_row.new.seat) c.take_row-slot.new.slots.items c.add_row.ensures.kept
          (c.take_row-slot.ensures t before inv.3).1,
    )

pub returns-clause-seat : goal.returns-clause-seat
returns-clause-seat g c = c.loop-number.invariant.0

pub returns-clause-kept : goal.returns-clause-kept
returns-clause-kept g c = c.loop-number.invariant.1

pub returns-clause-rows : goal.returns-clause-rows
returns-clause-rows g c =
    let t = arc_value c.args.relation.now in
    let all : c.loop-number.number ≡ length t =
    omega (arith, c.len-number-end.ensures, ap (λ (x : Table). length x) c.deref-table.ensures) in
    subst (λ (k : ℕ). AreSlotsFilled t (lengths_of c.loop-number.seat) k c.loop-number.rows.items) all
    c.loop-number.invariant.2

pub loop-number-init : goal.loop-number-init
loop-number-init g c = (
  c.requires.seat,
  (λ k h. h),
  record {
    size = ap (λ (l : List SourceRow). length l) c.in_ok-rows.ensures.items;
    each = λ v d at. absurd (omega (arith, at));
  },
  c.requires.slots,
)
