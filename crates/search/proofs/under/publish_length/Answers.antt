use Rattle.std.proofs.Common.{◌+◌, inr, arith}
use Rattle.best.specs.Seats.{known_of}
use Rattle.search.specs.Bound.{lengths_of}
use Rattle.search.proofs.Known.{knows_keeps, knows_it}
use Rattle.search.proofs.Through.{cap_covers}
use Rattle.search.proofs.under.publish_length.Goals as goal

pub lower_to_length-requires-clause-size : goal.lower_to_length-requires-clause-size
lower_to_length-requires-clause-size c = c.requires.cycle (c.is_shorter.ensures.yes c.if-is_shorter.true)

pub returns-then-is_shorter-clause-kept : goal.returns-then-is_shorter-clause-kept
returns-then-is_shorter-clause-kept c = knows_keeps (known_of c.args.seat.now) (known_of c.lower_to_length.new.seat)
    (c.args.closing + 1) c.lower_to_length.ensures.new

pub returns-then-is_shorter-clause-covers : goal.returns-then-is_shorter-clause-covers
returns-then-is_shorter-clause-covers c = inr (
  c.args.closing + 1,
  knows_it (known_of c.args.seat.now) (known_of c.lower_to_length.new.seat) (c.args.closing + 1)
      c.lower_to_length.ensures.new,
  omega arith,
)

pub returns-else-is_shorter-clause-covers : goal.returns-else-is_shorter-clause-covers
returns-else-is_shorter-clause-covers c =
    cap_covers c.args.events c.args.closing c.args.cap (lengths_of c.args.seat.now) c.requires.known
    (c.is_shorter.ensures.no c.if-is_shorter.false)
