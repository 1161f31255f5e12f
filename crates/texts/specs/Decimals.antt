-- Decimal numbers, and what the code's words for them say.
use Rattle.std.specs.Prelude.{◌≡◌, ◌≤◌, ◌^◌, ℕ, List, [], ◌∷◌, ◌+◌, ◌*◌, ◌-◌, ◌==◌, ◌&&◌, ◌||◌, Bool, not}
use Rattle.std.specs.Prelude.{nat_lt, nat_le, slice_index, length, Option, None, Some, if◌then◌else◌, ⊤}
use Rattle.std.specs.List.{list_all}
use Rattle.texts.specs.declared.number.Number.{Number}
use Rattle.texts.specs.declared.number.Number.TheVariants.{Value, TooLarge}

-- a byte from 0 to 9
abbrev pub is_digit : ℕ → Bool
is_digit b = nat_le 48 b && nat_le b 57

-- the digits of a number, with no 0 before another
abbrev pub is_decimal : List ℕ → Bool
is_decimal text =
    nat_lt 0 (length text) && list_all is_digit text
    && (not (slice_index text 0 == 48) || (length text == 1))

-- the number that digits write after those of n
abbrev pub value_from : ℕ → List ℕ → ℕ
value_from n [] = n
value_from n (b ∷ bs) = value_from (n * 10 + (b - 48)) bs

-- the number that a text is
unfoldable pub decimal_of : List ℕ → Option ℕ
decimal_of text = if is_decimal text then Some (value_from 0 text) else None

-- a number that was read is m, or too large as m is
abbrev pub IsValue : Number → ℕ → Type 0
IsValue (Value n) m = n ≡ m
IsValue TooLarge m = 2 ^ 32 ≤ m

-- a number that was read, where there is one, is m, or too large as m is
abbrev pub AreValues : Option Number → Option ℕ → Type 0
AreValues None None = ⊤
AreValues None (Some m) = ⊥
AreValues (Some number) None = ⊥
AreValues (Some number) (Some m) = IsValue number m
