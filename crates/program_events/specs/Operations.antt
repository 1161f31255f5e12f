-- The operations of a program, each by the number of its event.
use Rattle.std.specs.Prelude.{ℕ, Bool, true, false, Option, Some, None, List, slice_index_or}
use Rattle.program.specs.declared.op.Op.{Op}
use Rattle.program.specs.declared.op.Op.TheVariants.{St, Ld, Fence, Swap, Add, Cas}
use Rattle.recording.specs.Execution.{placed_from}

-- the core and the operation of event e
abbrev pub placed_op : List (List Op) → ℕ → ℕ × Op
placed_op p e = slice_index_or (placed_from 0 p) e (0, Fence)

-- whether an operation is a plain store
abbrev pub is_st : Op → Bool
is_st (St a v) = true
is_st op = false

-- whether it is a plain load
abbrev pub is_ld : Op → Bool
is_ld (Ld a) = true
is_ld op = false

-- the address that an operation reads, if it reads
abbrev pub op_reads : Op → Option ℕ
op_reads (St a v) = None
op_reads (Ld a) = Some a
op_reads Fence = None
op_reads (Swap a v) = Some a
op_reads (Add a v) = Some a
op_reads (Cas a e v) = Some a
