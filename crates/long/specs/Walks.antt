-- Walks back along forced pairs.
use Rattle.std.specs.Prelude.{◌≡◌, ◌<◌, ◌+◌, ◌-◌, ℕ, List, length, slice_index}
use Rattle.recording.specs.Execution.{Execution}
use Rattle.recording.specs.Order.{times}
use Rattle.relations.specs.Forced.{Forced}
use Rattle.long.specs.Chains.{Chains, times_kept}

-- each event of the stack is forced before the one below it
abbrev pub IsChain : Execution → List ℕ → Type 0
IsChain x stack = (i : ℕ) → i + 1 < length stack → Forced x (slice_index stack (i + 1)) (slice_index stack i)

-- d is forced before the last event of the stack
abbrev pub IsBeforeLast : Execution → List ℕ → ℕ → Type 0
IsBeforeLast x stack d = 0 < length stack → Forced x d (slice_index stack (length stack - 1))

-- d stands on a stack that is a chain, and is forced before the last event of it
pub record IsClosedStack (x : Execution) (stack : List ℕ) (d : ℕ) : Type 0 where
  pub chain : IsChain x stack
  pub stands : 0 < times stack d
  pub forced : IsBeforeLast x stack d

-- an event whose count is not 0
abbrev pub IsOpenEvent : List ℕ → ℕ → Type 0
IsOpenEvent counts e = (e < length counts) × (0 < slice_index counts e)

-- each open event is the second of a pair of an open event
abbrev pub IsBlocked : Chains → List ℕ → Type 0
IsBlocked p counts = (e : ℕ) → IsOpenEvent counts e → (d : ℕ) × IsOpenEvent counts d × (0 < times_kept p d e)

-- for each open event one more than an open event that it is the second of a pair of
pub record AreBefore (p : Chains) (counts befores : List ℕ) : Type 0 where
  pub size : length befores ≡ length counts
  pub some : (e : ℕ) → IsOpenEvent counts e → 0 < slice_index befores e
  pub before : (e : ℕ) → 0 < slice_index befores e → IsOpenEvent counts (slice_index befores e - 1)
      × (0 < times_kept p (slice_index befores e - 1) e)

-- the stack begins anywhere, each event has the one before that below it, and the one before the last stands among them
pub record IsWalk (befores stack : List ℕ) (first : ℕ) : Type 0 where
  pub back : (i : ℕ) → i + 1 < length stack → slice_index befores (slice_index stack i) ≡ slice_index stack (i + 1) + 1
  pub last : 0 < length stack → slice_index befores (slice_index stack (length stack - 1)) ≡ first + 1
  pub stands : 0 < times stack first
