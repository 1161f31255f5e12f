-- What a program is: its names, for each core its operations, and the initial values.
use Rattle.std.specs.Prelude.{◌≡◌, ◌≤◌, ◌<◌, ◌^◌, ◌+◌, ◌==◌, ℕ, List, [], ◌∷◌, Option, Some, None, length}
use Rattle.std.specs.Prelude.{sum_by, nat_lt, if◌then◌else◌, option_and_then, ⊤}
use Rattle.std.specs.List.{AllByRecursion, IsDistinct}
use Rattle.program.specs.declared.name.Name.{Name}
use Rattle.program.specs.declared.op.Op.{Op}
use Rattle.program.specs.declared.op.Op.TheVariants.{St, Ld, Fence, Swap, Add, Cas}
use Rattle.common.specs.declared.limits.TheConstants.{MAX_CORES, MAX_EVENTS, MAX_ADDRESSES}
use Rattle.program.specs.Names.{name_eq, AreLawful}

-- the names in order of first use, and the operations of each core in program order
pub record Body : Type 0 where
  pub names : List Name
  pub cores : List (List Op)

-- the names in order of first use, the operations of each core in program order, and the initial value of each address
pub record Parts : Type 0 where
  pub names : List Name
  pub cores : List (List Op)
  pub init : List ℕ

-- the program of these names, operations and initial values
abbrev pub parts_of : List Name → List (List Op) → List ℕ → Parts
parts_of names cores init = record { names = names; cores = cores; init = init }

-- a program without its initial values
abbrev pub body_of : Parts → Body
body_of p = record { names = p.names; cores = p.cores }

-- how many operations there are
abbrev pub op_count : List (List Op) → ℕ
op_count cores = sum_by (λ ops. length ops) cores

-- the address of an operation
abbrev pub addr_of : Op → Option ℕ
addr_of (St a n) = Some a
addr_of (Ld a) = Some a
addr_of Fence = None
addr_of (Swap a n) = Some a
addr_of (Add a n) = Some a
addr_of (Cas a e n) = Some a

-- an operation's address, if it has one, is below n
abbrev pub IsWithin : ℕ → Op → Type 0
IsWithin n (St a v) = a < n
IsWithin n (Ld a) = a < n
IsWithin n Fence = ⊤
IsWithin n (Swap a v) = a < n
IsWithin n (Add a v) = a < n
IsWithin n (Cas a e v) = a < n

-- a value of 32 bits
abbrev pub IsSmall : ℕ → Type 0
IsSmall n = n < 2 ^ 32

-- values of 32 bits
abbrev pub Small : Op → Type 0
Small (St a n) = IsSmall n
Small (Ld a) = ⊤
Small Fence = ⊤
Small (Swap a n) = IsSmall n
Small (Add a n) = IsSmall n
Small (Cas a e n) = IsSmall e × IsSmall n

-- how many addresses were used after this one, where the first m were used before
abbrev pub use_addr : ℕ → Option ℕ → Option ℕ
use_addr m None = Some m
use_addr m (Some a) = if nat_lt a m then Some m else (if a == m then Some (m + 1) else None)

-- how many addresses were used after all operations of a core
abbrev pub use_ops : ℕ → List Op → Option ℕ
use_ops m [] = Some m
use_ops m (op ∷ ops) = option_and_then (λ k. use_ops k ops) (use_addr m (addr_of op))

-- how many addresses were used after all cores; None where addresses aren't numbered in order of first use
abbrev pub use_cores : ℕ → List (List Op) → Option ℕ
use_cores m [] = Some m
use_cores m (ops ∷ cores) = option_and_then (λ k. use_cores k cores) (use_ops m ops)

-- cores within the limits, whose names are lawful, distinct, and those of their addresses
pub record IsBody (p : Body) : Type 0 where
  pub few_cores : length p.cores ≤ MAX_CORES
  pub few_ops : op_count p.cores ≤ MAX_EVENTS
  pub few_names : length p.names ≤ MAX_ADDRESSES
  pub values : AllByRecursion (AllByRecursion Small) p.cores
  pub lawful : AreLawful p.names
  pub distinct : IsDistinct name_eq p.names
  pub numbered : use_cores 0 p.cores ≡ Some (length p.names)

-- such cores of a program, with one initial value of 32 bits for each address
pub record IsProgram (p : Parts) : Type 0 where
  pub few_cores : length p.cores ≤ MAX_CORES
  pub few_ops : op_count p.cores ≤ MAX_EVENTS
  pub few_names : length p.names ≤ MAX_ADDRESSES
  pub values : AllByRecursion (AllByRecursion Small) p.cores
  pub lawful : AreLawful p.names
  pub distinct : IsDistinct name_eq p.names
  pub numbered : use_cores 0 p.cores ≡ Some (length p.names)
  pub init_length : length p.init ≡ length p.names
  pub init_values : AllByRecursion IsSmall p.init
