use Rattle.std.specs.Arc.{arc_value}
use Rattle.search.specs.Bound.{IsSeatFor, Keeps, lengths_of}
use Rattle.search.specs.Slots.{AreSlots, AreSlotsFilled}
use Rattle.search.proofs.slots.fill_rows.Given as goal

abbrev pub invariant-loop-number : goal.invariant-loop-number
invariant-loop-number g l =
    IsSeatFor l.best (arc_value l.relation) l.seat
    × Keeps (lengths_of l.initial.seat) (lengths_of l.seat)
    × AreSlotsFilled (arc_value l.relation) (lengths_of l.seat) l.number l.rows.items
    × AreSlots (arc_value l.relation) (lengths_of l.seat) l.slots.items
