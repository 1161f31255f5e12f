-- What is left of a program of which the operations of some events alone are kept.
use Rattle.std.specs.Prelude.{ℕ, List, map}
use Rattle.program.specs.declared.op.Op.{Op}
use Rattle.program.specs.declared.op.Op.TheVariants.{St, Ld, Fence, Swap, Add, Cas}
use Rattle.program.specs.Parts.{Parts}
use Rattle.program.specs.Names.{name_at}
use Rattle.recording.specs.Execution.{Execution, initial_value}
use Rattle.recording.specs.Order.{place}
use Rattle.program_events.specs.Operations.{placed_op}
use Rattle.reduction.specs.Restriction.{addresses_of, used_cores}

-- an operation with another number for its address
abbrev pub readdressed : (ℕ → ℕ) → Op → Op
readdressed address (St a v) = St (address a) v
readdressed address (Ld a) = Ld (address a)
readdressed address Fence = Fence
readdressed address (Swap a v) = Swap (address a) v
readdressed address (Add a v) = Add (address a) v
readdressed address (Cas a e v) = Cas (address a) e v

-- the operation of event k of p, its address by its place among us
abbrev pub readdressed_op : Parts → List ℕ → ℕ → Op
readdressed_op p us k = readdressed (place us) (placed_op p.cores k).1

-- the program p of x with the operations of the events ks alone: an address's number is its place among those that
-- they use, with its name and its initial value; cores and addresses that they don't use are gone
unfoldable pub restricted_program : Parts → Execution → List ℕ → Parts
restricted_program p x ks = record {
  names = map (name_at p.names) (addresses_of x ks);
  cores = map (λ es. map (readdressed_op p (addresses_of x ks)) es) (used_cores x ks);
  init = map (initial_value x) (addresses_of x ks);
}
