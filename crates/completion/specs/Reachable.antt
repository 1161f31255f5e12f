-- Situations that moves lead to.
use Rattle.std.specs.Prelude.{◌≡◌, ◌<◌, ℕ, Option, Some, List, [], ◌∷◌, All, length, option_and_then}
use Rattle.std.specs.List.{IsDistinct}
use Rattle.completion.specs.declared.moves.Move.{Move}
use Rattle.completion.specs.declared.moves.Turn.{Turn}
use Rattle.values.specs.Values.{Values}
use Rattle.completion.specs.Situation.{moved, beginning, IsEnd}
use Rattle.situations.specs.Situation.{Situation}
use Rattle.situations.specs.Row.{same_situation}

-- moves lead from one situation to another
pub data Leads (v : Values) (r : Situation) : Situation → Type 0 where
  here : Leads v r r
  further : (s t : Situation) (move : Move) (c : ℕ) → Leads v r s → moved v s move c ≡ Some t → Leads v r t

-- where moves lead, one after another; none where one of them can't be made
abbrev pub after_moves : Values → Situation → List Turn → Option Situation
after_moves v r [] = Some r
after_moves v r (t ∷ ts) = option_and_then (λ s. after_moves v s ts) (moved v r t.step t.core)

-- moves lead from the beginning to the end
abbrev pub EndsBy : Values → List Turn → Type 0
EndsBy v turns = (s : Situation) × (after_moves v (beginning v) turns ≡ Some s) × IsEnd v s

-- moves from the beginning lead to more than this many situations
pub record HasMore (v : Values) (limit : ℕ) : Type 0 where
  pub rows : List Situation
  pub reached : All (Leads v (beginning v)) rows
  pub different : IsDistinct same_situation rows
  pub many : limit < length rows
