-- The status that a verdict is printed with.
use Rattle.std.specs.Prelude.{ℕ, List, codes, if◌then◌else◌, nat_eq}
use Rattle.std.specs.List.{starts_with}

-- 0 for an order, 2 for what TSO does not allow
abbrev pub verdict_status : List ℕ → ℕ
verdict_status verdict = if starts_with nat_eq verdict (codes "ordered:") then 0 else 2
