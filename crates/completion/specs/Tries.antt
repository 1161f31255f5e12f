-- What the calls of a search come to.
use Rattle.std.specs.Prelude.{◌≡◌, ◌<◌, ◌-◌, ◌^◌, ◌++◌, ◌∷◌, [], ℕ, List, length, slice_get}
use Rattle.completion.specs.declared.moves.Turn.{Turn}
use Rattle.completion.specs.declared.search.Came.{Came}
use Rattle.completion.specs.declared.search.Came.TheVariants as came
use Rattle.completion.specs.declared.search.Next.{Next}
use Rattle.completion.specs.declared.search.Next.TheVariants as next
use Rattle.completion.specs.declared.search.Way.{Way}
use Rattle.values.specs.Values.{Values}
use Rattle.completion.specs.Situation.{moved}
use Rattle.situations.specs.Situation.{Situation}
use Rattle.completion.specs.Seen.{IsVain}
use Rattle.completion.specs.Reachable.{EndsBy, HasMore}

-- what a move of a situation comes to, by which way a becomes b: nothing; the end; the situation with a number; or
-- there are more situations than the limit
abbrev pub IsMove : Values → Way → Way → Situation → Turn → Next → Type 0
IsMove v a b r turn next.Vain = (b ≡ a) × IsVain v b.seen r turn.step turn.core
IsMove v a b r turn next.End = EndsBy v b.turns.items
IsMove v a b r turn (next.Row i) = (moved v r turn.step turn.core ≡ slice_get b.seen.rows.keys i)
    × (i < length b.seen.rows.keys) × (b.turns.items ≡ a.turns.items ++ turn ∷ [])
IsMove v a b r turn next.Full = HasMore v a.limit

-- what a row comes to: turns that lead to the end; what is said of dead ones; that the try is over, which may look at
-- no more than some rows; or that there are more situations than the limit
abbrev pub IsCome : Type 0 → Values → ℕ → ℕ → List Turn → Came → Type 0
IsCome dead v limit most turns came.End = EndsBy v turns
IsCome dead v limit most turns came.Dead = dead
IsCome dead v limit most turns came.Stopped = most < 2 ^ 64 - 1
IsCome dead v limit most turns came.Full = HasMore v limit
