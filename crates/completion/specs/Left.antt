-- What is left of values while events are taken away.
use Rattle.std.specs.Prelude.{◌≡◌, ◌<◌, ◌≤◌, ◌↔◌, ◌⊎◌, ℕ, Bool, true, List, length, count_by}
use Rattle.bitrow.specs.Bits.{is_in}
use Rattle.recording.specs.Execution.{event_count}
use Rattle.values.specs.Values.{Values, AreAllowed}
use Rattle.values.specs.Refused.{events_alone, ObeyRules}
use Rattle.completion.specs.declared.left.Left.{Left}
use Rattle.completion.specs.declared.part.TheConstants.{MOST_LEFT}
use Rattle.completion.specs.declared.part.Tried.{Tried}
use Rattle.completion.specs.declared.part.Tried.TheVariants.{Allowed, Less, Unknown}
use Rattle.completion.specs.Part.{AreEvents, AreFed, AreMostFed, IsMember, IsNeeded, IsRestriction}
use Rattle.completion.specs.Reachable.{HasMore}

-- the numbers that a row has
abbrev pub IsInRow : List Bool → ℕ → Type 0
IsInRow row e = is_in row e ≡ true

-- how many numbers a row has
abbrev pub member_count : List Bool → ℕ
member_count row = count_by (λ b. b) row

-- of the events of one row another has only such, and all that are fed among themselves
pub record LeavesFed (v : Values) (before after : List Bool) : Type 0 where
  pub fewer : (e : ℕ) → IsInRow after e → IsInRow before e
  pub all : (es : List ℕ) → AreFed v (IsMember es) → ((e : ℕ) → IsMember es e → IsInRow before e)
      → (e : ℕ) → IsMember es e → IsInRow after e

-- some events that are fed among themselves, as a row and as a list, and the values with these alone
pub record IsLeft (v : Values) (l : Left) : Type 0 where
  pub size : length l.row ≡ event_count (events_alone v)
  pub events : AreEvents v l.events.items
  pub few : length l.events.items ≤ event_count (events_alone v)
  pub same : (e : ℕ) → IsMember l.events.items e ↔ IsInRow l.row e
  pub fed : AreFed v (IsInRow l.row)
  pub values : IsRestriction v l.events.items l.values

-- TSO does not allow what is left
pub record IsRefuted (v : Values) (l : Left) : Type 0 where
  pub left : IsLeft v l
  pub refuted : ¬ AreAllowed l.values

-- TSO allows the values with the most of the events of a row that are fed among themselves
abbrev pub IsAllowedWith : Values → List Bool → Type 0
IsAllowedWith v row = (rest : List ℕ) × (w : Values) × AreEvents v rest × AreMostFed v (IsInRow row) rest
    × IsRestriction v rest w × AreAllowed w

-- values with some of the events alone lead to more situations than the limit
abbrev pub IsGivenUp : Values → ℕ → Type 0
IsGivenUp v limit = (rest : List ℕ) × (w : Values) × AreEvents v rest × IsRestriction v rest w × HasMore w limit

-- what came of trying the events of a row alone
abbrev pub IsTried : Values → List Bool → ℕ → Tried → Type 0
IsTried v row limit Allowed = IsAllowedWith v row
IsTried v row limit (Less l) = IsRefuted v l × (member_count l.row ≤ member_count row)
IsTried v row limit Unknown = IsGivenUp v limit

-- what came of taking each event below n away: all are needed, or less is left
abbrev pub AreTried : Values → Left → ℕ → ℕ → Tried → Type 0
AreTried v l n limit Allowed = (e : ℕ) → e < n → IsInRow l.row e → IsNeeded v l.events.items e
AreTried v l n limit (Less k) = IsRefuted v k × (member_count k.row < member_count l.row)
AreTried v l n limit Unknown = IsGivenUp v limit

-- why no part is found: the values break a rule or TSO allows them, there are many events, or a search was given up
abbrev pub HasNoPart : Values → ℕ → Type 0
HasNoPart v limit = (ObeyRules v → AreAllowed v) ⊎ ((MOST_LEFT < event_count (events_alone v)) ⊎ IsGivenUp v limit)
