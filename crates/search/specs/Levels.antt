-- One level of a breadth-first search.
use Rattle.std.specs.Prelude.{◌≡◌, ◌⊎◌, ℕ, Bool, true, List}
use Rattle.bitrow.specs.Bits.{is_in}

-- an event of the level is related to v
abbrev pub Closes : (ℕ → ℕ → Type 0) → List Bool → ℕ → Type 0
Closes R level v = (e : ℕ) × (is_in level e ≡ true) × R e v

-- the label, where nothing before it closes and this level does; else what it was
abbrev pub IsClosing : Type 0 → ℕ → ℕ → ℕ → ℕ → Type 0
IsClosing closes label cap before after =
    ((before ≡ cap) × closes × (after ≡ label)) ⊎ ((before ≡ cap → ¬ closes) × (after ≡ before))
