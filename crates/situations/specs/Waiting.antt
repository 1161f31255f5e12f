-- Stores of a core that wait, among its steps: operations or events, of which a function says what they store.
use Rattle.std.specs.Prelude.{◌==◌, ℕ, suc, Bool, not, if◌then◌else◌, Option, Some, None, List, [], ◌∷◌}
use Rattle.std.specs.Prelude.{drop, is_some, take}
use Rattle.std.specs.List.{list_any}
use Rattle.situations.specs.declared.waiting.Waiting.{Waiting}

-- the steps between two places
abbrev pub between : {A : Type 0} → List A → ℕ → ℕ → List A
between steps d k = drop d (take k steps)

-- no store waits
abbrev pub none_waits : {A : Type 0} → (A → Option (ℕ × ℕ)) → List A → Bool
none_waits stored steps = not (list_any (λ x. is_some (stored x)) steps)

-- the store that waits at place i, if there is one
abbrev pub waiting_at : ℕ → Option (ℕ × ℕ) → Option Waiting
waiting_at i (Some (a, v)) = Some (record { place = i; address = a; value = v })
waiting_at i None = None

-- the first, unless there is none
abbrev pub else_later : Option Waiting → Option Waiting → Option Waiting
else_later (Some x) later = Some x
else_later None later = later

-- the oldest store of a list that begins at place i
abbrev pub oldest : {A : Type 0} → (A → Option (ℕ × ℕ)) → ℕ → List A → Option Waiting
oldest stored i [] = None
oldest stored i (x ∷ xs) = else_later (waiting_at i (stored x)) (oldest stored (suc i) xs)

-- the value that was stored to address a, and v where nothing was
abbrev pub newer : ℕ → ℕ → Option (ℕ × ℕ) → ℕ
newer a v (Some (b, w)) = if b == a then w else v
newer a v None = v

-- the value of the youngest store to address a, and v where none waits
abbrev pub forwarded : {A : Type 0} → (A → Option (ℕ × ℕ)) → ℕ → ℕ → List A → ℕ
forwarded stored a v [] = v
forwarded stored a v (x ∷ xs) = forwarded stored a (newer a v (stored x)) xs

-- place i where something was stored to address a, and o where nothing was
abbrev pub younger : ℕ → Option ℕ → ℕ → Option (ℕ × ℕ) → Option ℕ
younger a o i (Some (b, w)) = if b == a then Some i else o
younger a o i None = o

-- the place of the youngest store to address a of a list that begins at place i, and o where none waits
abbrev pub youngest : {A : Type 0} → (A → Option (ℕ × ℕ)) → ℕ → Option ℕ → ℕ → List A → Option ℕ
youngest stored a o i [] = o
youngest stored a o i (x ∷ xs) = youngest stored a (younger a o i (stored x)) (suc i) xs
