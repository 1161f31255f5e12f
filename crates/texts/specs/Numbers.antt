-- The texts of numbers.
use Rattle.std.specs.Prelude.{◌++◌, ◌∷◌, ◌-◌, ℕ, List, decimal, length, replicate}
use Rattle.std.specs.List.{flat_map}

-- a space before each number
abbrev pub numbers_text : List ℕ → List ℕ
numbers_text numbers = flat_map (λ n. 32 ∷ decimal n) numbers

-- how many digits a number has
abbrev pub digits : ℕ → ℕ
digits n = length (decimal n)

-- this many spaces
abbrev pub spaces : ℕ → List ℕ
spaces n = replicate n 32

-- a number with spaces before it, up to a width
abbrev pub aligned : ℕ → ℕ → List ℕ
aligned width n = spaces (width - digits n) ++ decimal n
