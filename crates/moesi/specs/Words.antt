-- A line with its data as one word: bits 0 to 31 the value, 32 to 47 the event's number plus 1, or 0 for
-- none, and 48 to 50 the state. The caches of some cores over some addresses are one list of words: core by core,
-- and then memory.
use Rattle.std.specs.Prelude.{◌≡◌, ◌+◌, ◌-◌, ◌*◌, ◌/◌, ◌%◌, ◌^◌, ◌==◌, ℕ, if◌then◌else◌, Option, Some, None, List}
use Rattle.std.specs.Prelude.{map, length, slice_index}
use Rattle.std.specs.List.{range_with_len}
use Rattle.moesi.specs.declared.line.Line.{Line}
use Rattle.moesi.specs.declared.line.Line.TheVariants.{I, S, E, O, M}
use Rattle.moesi.specs.declared.cell.Cell.{Cell}
use Rattle.moesi.specs.Block.{Block}
use Rattle.moesi.specs.State.{CacheState}

-- the number of a state; memory's words have 0, that of I
abbrev pub line_code : Line → ℕ
line_code I = 0
line_code S = 1
line_code E = 2
line_code O = 3
line_code M = 4

-- the state of a number; one above 4 is no state's, and stands for M
abbrev pub line_from : ℕ → Line
line_from n =
    if n == 0 then I else (if n == 1 then S else (if n == 2 then E else (if n == 3 then O else M)))

-- the event of a number
abbrev pub event_from : ℕ → Option ℕ
event_from n = if n == 0 then None else Some (n - 1)

-- the line with its data that a word stands for
abbrev pub cell_in : ℕ → Cell
cell_in w = record {
  line = line_from (w / 2 ^ 48);
  copy = (w % 2 ^ 48 % 2 ^ 32, event_from (w % 2 ^ 48 / 2 ^ 32));
}

-- memory's value with no event; its words have the number of I
abbrev pub memory_cell : ℕ → Cell
memory_cell value = record { line = I; copy = (value, None) }

-- one address: word c * addresses + a is the line of core c, and the words after those of all cores are
-- memory
abbrev pub block_in : ℕ → ℕ → List ℕ → ℕ → Block
block_in cores addresses words a = record {
  lines = map (λ c. cell_in (slice_index words (c * addresses + a))) (range_with_len 0 cores);
  memory = (cell_in (slice_index words (cores * addresses + a))).copy;
}

-- all addresses
abbrev pub caches_in : ℕ → ℕ → List ℕ → CacheState
caches_in cores addresses words = record {
  cores = cores;
  blocks = map (λ a. block_in cores addresses words a) (range_with_len 0 addresses);
}

-- there is a word for each address in each core's cache and in memory
abbrev pub AreWords : ℕ → ℕ → List ℕ → Type 0
AreWords cores addresses words = length words ≡ (cores + 1) * addresses
