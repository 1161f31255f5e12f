-- How large random programs are.
use Rattle.std.specs.Prelude.{◌<◌, ◌≤◌, ◌*◌, ◌||◌, ℕ, Bool, nat_lt, Result, Ok, Err, if◌then◌else◌}
use Rattle.program.specs.declared.shape_error.ShapeError.{ShapeError}
use Rattle.program.specs.declared.shape_error.ShapeError.TheVariants.{K1, K2, K3, K4}
use Rattle.common.specs.declared.limits.TheConstants.{MAX_CORES, MAX_EVENTS, MAX_ADDRESSES}

-- how many cores, operations of each core, and addresses
pub record Sizes : Type 0 where
  pub cores : ℕ
  pub ops : ℕ
  pub addresses : ℕ

-- sizes within the limits
pub record IsShape (s : Sizes) : Type 0 where
  pub cores : (0 < s.cores) × (s.cores ≤ MAX_CORES)
  pub ops : (0 < s.ops) × (s.ops ≤ MAX_EVENTS)
  pub addresses : (0 < s.addresses) × (s.addresses ≤ MAX_ADDRESSES)
  pub all : s.cores * s.ops ≤ MAX_EVENTS

-- a number that is not from 1 to the limit
abbrev pub is_outside : ℕ → ℕ → Bool
is_outside limit n = nat_lt n 1 || nat_lt limit n

-- the shape of these sizes, or the first refusal
abbrev pub shape_of : ℕ → ℕ → ℕ → Result Sizes ShapeError
shape_of cores ops addresses =
    if is_outside MAX_CORES cores then Err K1
    else (if is_outside MAX_EVENTS ops then Err K2
    else (if is_outside MAX_ADDRESSES addresses then Err K3
    else (if nat_lt MAX_EVENTS (cores * ops) then Err K4
    else Ok (record { cores = cores; ops = ops; addresses = addresses }))))
