use Rattle.std.proofs.Common.{inl, inr, length, arith}
use Rattle.std.proofs.lemmas.Bool.{cases_lt}
use Rattle.std.proofs.lemmas.List.{get_or_past}
use Rattle.long.proofs.walking.first_with.Goals as goal

pub unreachable-requires : goal.unreachable-requires
unreachable-requires c =
    let e = c.requires.some.0 in
    elim (cases_lt e (length c.args.befores.now)) [
      | inl low ↦ omega (
        arith,
        c.requires.some.1,
        c.loop-event.invariant e (omega (arith, low, c.loop-event-test.false)),
      )
      | inr past ↦ omega (arith, c.requires.some.1, get_or_past c.args.befores.now e 0 past)
    ]
