-- Which seat is whose, and what a look says.
use Rattle.std.specs.Prelude.{◌≡◌, ◌≢◌, ℕ, Contains}
use Rattle.std.specs.Arc.{arc_value}
use Rattle.trials.specs.declared.desk_table.SeatKnowledge.{SeatKnowledge}
use Rattle.trials.specs.declared.seat.Look.{Look}
use Rattle.trials.specs.declared.seat.Look.TheVariants.{Open, Claimed, Filed}
use Rattle.trials.specs.declared.seat.Desk.{Desk}
use Rattle.trials.specs.declared.seat.DeskSeat.{DeskSeat}
use Rattle.trials.specs.Campaigns.{Plan}
use Rattle.trials.specs.Codes.{IsCode}
use Rattle.trials.specs.LegalDesk.{saw_claimed, saw_filed, Was}

-- the seat is of the desk
abbrev pub IsDeskSeatOf : Desk → DeskSeat → Type 0
IsDeskSeatOf d s = s.seat.table_id ≡ (arc_value d.table).shared.table_id

-- the seat is of the desk, which is of this campaign
abbrev pub SitsAt : Desk → Plan → DeskSeat → Type 0
SitsAt d p s = IsDeskSeatOf d s × (s.seat.me.0.campaign ≡ p)

-- at least what was claimed, filed or seen; and that is seen from then on
abbrev pub IsLook : SeatKnowledge → ℕ → Look → SeatKnowledge → Type 0
IsLook v k Open w = (w ≡ v) × (Contains v.share k → ⊥) × (Contains v.seen k → ⊥)
IsLook v k Claimed w = (w ≡ saw_claimed v k) × (Contains v.filed k → ⊥) × (Contains v.read k → ⊥)
IsLook v k (Filed code) w = (w ≡ saw_filed v k) × IsCode v.campaign k code

-- what a look at a word is: at least what was claimed, filed or seen
abbrev pub LoadsWord : SeatKnowledge → ℕ → ℕ → SeatKnowledge → Type 0
LoadsWord v k n w = Was v k n × (n ≡ 0 → w ≡ v) × (n ≡ 1 → w ≡ saw_claimed v k)
    × (n ≢ 0 → n ≢ 1 → (w ≡ saw_filed v k) × IsCode v.campaign k n)
