-- What the calls of a seat say.
use Rattle.std.specs.Prelude.{◌≡◌, ℕ, ◌≤◌, true, Option, Some, None, Contains}
use Rattle.std.specs.Arc.{arc_value}
use Rattle.best.specs.declared.rule.Known.{Known}
use Rattle.best.specs.declared.seat.Best.{Best}
use Rattle.best.specs.declared.seat.BestSeat.{BestSeat}
use Rattle.best.specs.Rule.{IsLength, knows, joined_bounds}

-- what a seat knows
abbrev pub known_of : BestSeat → Known
known_of s = s.seat.me.0.known

-- no other seat was ever beside it
abbrev pub IsAlone : BestSeat → Type 0
IsAlone s = s.seat.me.0.alone ≡ true

-- the seat is of this bound
abbrev pub IsBestSeatOf : Best → BestSeat → Type 0
IsBestSeatOf b s = s.seat.table_id ≡ (arc_value b.table).shared.table_id

-- the two seats are of one bound
abbrev pub AreBeside : BestSeat → BestSeat → Type 0
AreBeside s r = r.seat.table_id ≡ s.seat.table_id

-- the third knows what the first or the second knew
abbrev pub Unites : Known → Known → Known → Type 0
Unites v w u = u ≡ joined_bounds v w

-- none only where the seat knows none; a length is that of a cycle, at most each that the seat
-- knows, and known from then on
abbrev pub IsBoundRead : Known → Option ℕ → Known → Type 0
IsBoundRead v None w = (w ≡ v) × ((k : ℕ) → Contains v.lengths k → ⊥)
IsBoundRead v (Some n) w = (w ≡ knows v n) × IsLength v.relation n × ((k : ℕ) → Contains v.lengths k → n ≤ k)
