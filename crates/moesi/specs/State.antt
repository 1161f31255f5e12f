-- What the caches of all cores are, with memory, and what each call does to them.
use Rattle.std.specs.Prelude.{◌≡◌, ℕ, Option, Some, None, Result, Ok, Err, OnOk, IfErr, OnErr, List, []}
use Rattle.std.specs.Prelude.{length, replicate, slice_index_or, slice_set, map}
use Rattle.moesi.specs.declared.line.Line.{Line}
use Rattle.moesi.specs.declared.error.CacheError.{CacheError}
use Rattle.moesi.specs.declared.word.Turn.{Turn}
use Rattle.moesi.specs.declared.word.Turn.TheVariants.{Invalidate, LeaveStale}
use Rattle.moesi.specs.Block.{Block, cell_of, block_with, current_of, HasBlock}
use Rattle.moesi.specs.Rows as row

-- the number of cores, and what there is of each address
pub record CacheState : Type 0 where
  pub cores : ℕ
  pub blocks : List Block

-- an address that does not exist has no line
abbrev pub block_of : CacheState → ℕ → Block
block_of s a = slice_index_or s.blocks a (record { lines = []; memory = (0, None) })

-- the state of core c's line of address a
abbrev pub line_of : CacheState → ℕ → ℕ → Line
line_of s c a = (cell_of (block_of s a) c).line

-- the data of core c's line of address a
abbrev pub copy_of : CacheState → ℕ → ℕ → ℕ × Option ℕ
copy_of s c a = (cell_of (block_of s a) c).copy

-- memory's data of an address
abbrev pub memory_of : CacheState → ℕ → ℕ × Option ℕ
memory_of s a = (block_of s a).memory

-- the value of an address and its writer
abbrev pub current : CacheState → ℕ → ℕ × Option ℕ
current s a = current_of (block_of s a)

-- memory or a valid line of the address has these data
abbrev pub Has : CacheState → ℕ → ℕ × Option ℕ → Type 0
Has s a copy = HasBlock (block_of s a) copy

-- at first no line is valid, and memory has these values, one for each address, with no event
abbrev pub opening_with : ℕ → List ℕ → CacheState
opening_with cores init = record { cores = cores; blocks = map (λ v. block_with cores v) init }

-- at first no line is valid, and memory is 0
abbrev pub opening_caches : ℕ → ℕ → CacheState
opening_caches cores addresses = opening_with cores (replicate addresses 0)

-- address a is b
abbrev pub with_block : CacheState → ℕ → Block → CacheState
with_block s a b = record { cores = s.cores; blocks = slice_set s.blocks a b }

-- a row of the table, taken at address a
abbrev pub at_address : CacheState → ℕ → Result Block CacheError → Result CacheState CacheError
at_address s a (Ok b) = Ok (with_block s a b)
at_address s a (Err e) = Err e

-- GetS of core c at address a
abbrev pub get_s : CacheState → ℕ → ℕ → Result CacheState CacheError
get_s s c a = at_address s a (row.get_s (block_of s a) c)

-- GetM of core c at address a, which turns the others
abbrev pub get_m_by : Turn → CacheState → ℕ → ℕ → Result CacheState CacheError
get_m_by turn s c a = at_address s a (row.get_m_by turn (block_of s a) c)

-- GetM: the others become I
abbrev pub get_m : CacheState → ℕ → ℕ → Result CacheState CacheError
get_m s c a = get_m_by Invalidate s c a

-- the faulty GetM, which leaves others in S
abbrev pub get_m_stale : CacheState → ℕ → ℕ → Result CacheState CacheError
get_m_stale s c a = get_m_by LeaveStale s c a

-- Put of core c at address a
abbrev pub put : CacheState → ℕ → ℕ → Result CacheState CacheError
put s c a = at_address s a (row.put (block_of s a) c)

-- what core c reads at address a
abbrev pub read : CacheState → ℕ → ℕ → Result (ℕ × Option ℕ) CacheError
read s c a = row.read (block_of s a) c

-- core c writes a value and its event at address a
abbrev pub write : CacheState → ℕ → ℕ → ℕ → ℕ → Result CacheState CacheError
write s c a value event = at_address s a (row.write (block_of s a) c (value, Some event))

-- a call answered as the row says, and led from s to t, which is s where it was refused
pub record IsRowAnswer {A : Type 0} (row : Result CacheState CacheError) (s t : CacheState)
    (result : Result A CacheError) : Type 0 where
  pub ok : OnOk result (row ≡ Ok t)
  pub refused : IfErr result (λ e. row ≡ Err e)
  pub unchanged : OnErr result (t ≡ s)
  pub cores : t.cores ≡ s.cores
  pub addresses : length t.blocks ≡ length s.blocks
