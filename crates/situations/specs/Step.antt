-- What the steps of a core store: the operations of a program, and the events of a recording.
use Rattle.std.specs.Prelude.{ℕ, Option, Some, None}
use Rattle.program.specs.declared.op.Op.{Op}
use Rattle.program.specs.declared.op.Op.TheVariants.{St}
use Rattle.recording.specs.declared.event.Event.{Event}
use Rattle.recording.specs.declared.event.Event.TheVariants.{S}

-- the address and the value that an operation stores, if it is a plain store
abbrev pub stored_by_op : Op → Option (ℕ × ℕ)
stored_by_op (St a v) = Some (a, v)
stored_by_op op = None

-- the address and the value that an event stores, if it is a plain store
abbrev pub stored_by_event : Event → Option (ℕ × ℕ)
stored_by_event (S a w) = Some (a, w)
stored_by_event e = None
