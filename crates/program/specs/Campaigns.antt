-- What the trials of a campaign have in common.
use Rattle.std.specs.Prelude.{◌<◌, ◌≤◌, ℕ, Result, Ok, Err, if◌then◌else◌}
use Rattle.common.specs.declared.limits.TheConstants.{MAX_TRIALS, MAX_STEPS, MAX_CAPACITY}
use Rattle.program.specs.declared.shape_error.ShapeError.{ShapeError}
use Rattle.program.specs.declared.shape_error.ShapeError.TheVariants.{K5, K6, K7}
use Rattle.program.specs.Shapes.{Sizes, IsShape, is_outside}
use Rattle.program.specs.declared.fault.Fault.{Fault}

-- the shape of the programs, the first seed, how many trials there are, how many steps each
-- attempts, and the machine
pub record Plan : Type 0 where
  pub shape : Sizes
  pub base : ℕ
  pub trials : ℕ
  pub attempts : ℕ
  pub capacity : ℕ
  pub fault : Fault

-- a plan within the limits
pub record IsPlan (p : Plan) : Type 0 where
  pub shape : IsShape p.shape
  pub trials : (0 < p.trials) × (p.trials ≤ MAX_TRIALS)
  pub attempts : (0 < p.attempts) × (p.attempts ≤ MAX_STEPS)
  pub capacity : (0 < p.capacity) × (p.capacity ≤ MAX_CAPACITY)

-- the plan, or the first refusal
abbrev pub plan_of : Plan → Result Plan ShapeError
plan_of p =
    if is_outside MAX_TRIALS p.trials then Err K5
    else (if is_outside MAX_STEPS p.attempts then Err K6
    else (if is_outside MAX_CAPACITY p.capacity then Err K7
    else Ok p))
