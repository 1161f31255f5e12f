-- The program that makes a recording again: its events' operations, a name for each address, and the
-- initial values.
use Rattle.std.specs.Prelude.{◌+◌, ◌%◌, ◌^◌, List, map, length}
use Rattle.program.specs.declared.op.Op.{Op}
use Rattle.program.specs.declared.op.Op.TheVariants.{St, Ld, Fence, Swap, Cas}
use Rattle.program.specs.AddressNames.{address_names}
use Rattle.program.specs.Parts.{Parts, parts_of}
use Rattle.recording.specs.declared.event.Event.{Event}
use Rattle.recording.specs.declared.event.Event.TheVariants.{L, S, R, C, F}
use Rattle.recording.specs.Execution.{Execution}

-- the operation that an event came from; a read-modify-write is a swap of what it wrote, and a
-- compare-and-swap that failed expects another value than it read
abbrev pub op_of : Event → Op
op_of (L a r s) = Ld a
op_of (S a w) = St a w
op_of (R a r s w) = Swap a w
op_of (C a r s) = Cas a ((r + 1) % 2 ^ 32) 0
op_of F = Fence

-- the operations of each core
abbrev pub program_of : Execution → List (List Op)
program_of x = map (λ es. map op_of es) x.cores

-- the operations of an execution, its addresses' names, and their initial values
abbrev pub named_program : Execution → Parts
named_program x = parts_of (address_names (length x.write_lists)) (program_of x) x.initial
