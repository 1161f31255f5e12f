-- What a line does to the names and operations that were read before it.
use Rattle.std.specs.Prelude.{ℕ, List, [], ◌∷◌, ◌++◌, ◌-◌, ◌^◌, ◌==◌, ◌&&◌, nat_lt, length, slice_set}
use Rattle.std.specs.Prelude.{slice_index_or, Option, None, Some, Result, Ok, Err, if◌then◌else◌}
use Rattle.program.specs.declared.name.Name.{Name}
use Rattle.litmus.specs.declared.write_kind.WriteKind.{WriteKind}
use Rattle.litmus.specs.declared.write_kind.WriteKind.TheVariants as writes
use Rattle.program.specs.declared.op.Op.{Op}
use Rattle.program.specs.declared.op.Op.TheVariants.{St, Ld, Fence, Swap, Add, Cas}
use Rattle.litmus.specs.declared.line_refusal.LineRefusal.{LineRefusal}
use Rattle.litmus.specs.declared.line_refusal.LineRefusal.TheVariants.{L1, L2, L3, L4, L5}
use Rattle.common.specs.declared.limits.TheConstants.{MAX_CORES, MAX_EVENTS, MAX_ADDRESSES}
use Rattle.program.specs.Names.{names_with, name_number}
use Rattle.program.specs.Parts.{Body, op_count}

-- what is read from no line
abbrev pub empty : Body
empty = record { names = []; cores = [] }

-- the operation is the last one of the last core
abbrev pub with_op : List (List Op) → Op → List (List Op)
with_op cores op = slice_set cores (length cores - 1)
    (slice_index_or cores (length cores - 1) [] ++ op ∷ [])

-- the operation that a write is
abbrev pub write_op : WriteKind → ℕ → ℕ → Op
write_op writes.Store a n = St a n
write_op writes.Swap a n = Swap a n
write_op writes.Add a n = Add a n

-- whether an operation may come
abbrev pub op_refusal : Body → Option LineRefusal
op_refusal p =
    if length p.cores == 0 then Some L1
    else (if nat_lt (op_count p.cores) MAX_EVENTS then None else Some L3)

-- an answer, unless a refusal comes before it
abbrev pub unless : {S : Type 0} → Option LineRefusal → Result S LineRefusal → Result S LineRefusal
unless None r = r
unless (Some f) r = Err f

-- a new core begins
unfoldable pub core_step : Body → Result Body LineRefusal
core_step p = if nat_lt (length p.cores) MAX_CORES then Ok (record p {
  cores =
      p.cores ++ [] ∷ [];
}) else Err L2

-- a fence comes
unfoldable pub fence_step : Body → Result Body LineRefusal
fence_step p = unless (op_refusal p) (Ok (record p { cores = with_op p.cores Fence }))

-- an operation with a name comes: its address is tested, and then there is this answer
abbrev pub at_name : Body → Name → Result Body LineRefusal → Result Body LineRefusal
at_name p name r =
    unless (op_refusal p)
    (if nat_lt MAX_ADDRESSES (length (names_with p.names name)) then Err L4 else r)

-- a load comes
unfoldable pub load_step : Body → Name → Result Body LineRefusal
load_step p name =
    at_name p name
    (Ok (record {
      names = names_with p.names name;
      cores = with_op p.cores (Ld (name_number p.names name));
    }))

-- a write comes: its address is tested, and then its value
unfoldable pub write_step : Body → WriteKind → Name → ℕ → Result Body LineRefusal
write_step p write name n =
    at_name p name
    (if nat_lt n (2 ^ 32)
    then Ok (record {
      names = names_with p.names name;
      cores = with_op p.cores (write_op write (name_number p.names name) n);
    })
    else Err L5)

-- a compare-and-swap comes: its address is tested, and then its values
unfoldable pub compare_step : Body → Name → ℕ → ℕ → Result Body LineRefusal
compare_step p name e n =
    at_name p name
    (if nat_lt e (2 ^ 32) && nat_lt n (2 ^ 32)
    then Ok (record {
      names = names_with p.names name;
      cores = with_op p.cores (Cas (name_number p.names name) e n);
    })
    else Err L5)
