-- How far a core has come.
use Rattle.std.specs.Prelude.{ℕ, List, ◌+◌, Option, option_map, slice_get}
use Rattle.program.specs.declared.op.Op.{Op}

-- the number of the core's first event, and how many of its operations it has executed
pub record Progress : Type 0 where
  pub first : ℕ
  pub place : ℕ

-- the operation that the core executes next, and its event
abbrev pub next_of : Progress → List Op → Option (Op × ℕ)
next_of p ops = option_map (λ op. (op, p.first + p.place)) (slice_get ops p.place)
