-- What memory has at the end of an execution.
use Rattle.std.specs.Prelude.{◌-◌, ℕ, Option, Some, None, length, slice_get}
use Rattle.recording.specs.Event.{value_written}
use Rattle.recording.specs.Execution.{Execution, event_at, write_list, initial_value}

-- the value that a write gave an address; none is the initial value
abbrev pub value_by : Execution → ℕ → Option ℕ → ℕ
value_by x a None = initial_value x a
value_by x a (Some w) = value_written (event_at x w)

-- the last write to an address in memory order
abbrev pub last_write : Execution → ℕ → Option ℕ
last_write x a = slice_get (write_list x a) (length (write_list x a) - 1)

-- the value that an address ends with: that of the last write to it, or the initial one
abbrev pub final_value : Execution → ℕ → ℕ
final_value x a = value_by x a (last_write x a)
