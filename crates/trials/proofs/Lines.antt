-- How many lines there are.
use Rattle.std.proofs.Common.{ℕ, zero, suc, ◌*◌, ◌/◌, ◌<◌, ◌≤◌, arith}
use Rattle.std.proofs.Math.Nat.{mul-le-mul, div-le_self}
use Rattle.common.specs.declared.limits.TheConstants.{MAX_CORES, MAX_ADDRESSES}

-- there are few
pub few_lines : (c a : ℕ) → c ≤ MAX_CORES → a ≤ MAX_ADDRESSES → c * a ≤ MAX_CORES * MAX_ADDRESSES
few_lines c a h k = mul-le-mul h k

-- where there is a line, there is an address
pub some_address : (c a : ℕ) → 0 < c * a → 0 < a
some_address c zero h = absurd (omega (arith, h))
some_address c (suc a) h = omega arith

-- a quotient is no greater
pub quotient_le : (n k : ℕ) → n / k ≤ n
quotient_le n k = div-le_self n k
