-- Lemmas on the addresses that were used.
use Rattle.std.proofs.Common.{◌≡◌, ℕ, ◌+◌, ◌<◌, Some, arith}
use Rattle.program.specs.Parts.{use_addr}

-- an address that was used
pub use_old : (m a : ℕ) → a < m → use_addr m (Some a) ≡ Some m
use_old m a lt = grind (arith, lt)

-- the next address
pub use_new : (m : ℕ) → use_addr m (Some m) ≡ Some (m + 1)
use_new m = grind arith
