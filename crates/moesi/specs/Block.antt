-- What one address is: its line in each core's cache, and memory's data.
use Rattle.std.specs.Prelude.{◌≡◌, ◌⊎◌, IsTrue, ℕ, Bool, if◌then◌else◌, Option, None, List, [], ◌∷◌}
use Rattle.std.specs.Prelude.{replicate, slice_index_or, slice_set, map}
use Rattle.std.specs.List.{list_any}
use Rattle.moesi.specs.declared.line.Line.{Line}
use Rattle.moesi.specs.declared.line.Line.TheVariants.{I}
use Rattle.moesi.specs.declared.cell.Cell.{Cell}
use Rattle.moesi.specs.Lines.{is_valid, supplies}

-- the cores' lines, and memory's value with the event that wrote it, none where nothing was written
pub record Block : Type 0 where
  pub lines : List Cell
  pub memory : ℕ × Option ℕ

-- a line in I, which has value 0 and no event
abbrev pub invalid : Cell
invalid = record { line = I; copy = (0, None) }

-- at first each line is in I, and memory has a value with no event
abbrev pub block_with : ℕ → ℕ → Block
block_with cores value = record { lines = replicate cores invalid; memory = (value, None) }

-- what core c has of the address; a core that does not exist has nothing
abbrev pub cell_of : Block → ℕ → Cell
cell_of b c = slice_index_or b.lines c invalid

-- core c has x
abbrev pub with_line : Block → ℕ → Cell → Block
with_line b c x = record { lines = slice_set b.lines c x; memory = b.memory }

-- every line of the address becomes what f makes of it
abbrev pub block_by : (Cell → Cell) → Block → Block
block_by f b = record { lines = map f b.lines; memory = b.memory }

-- the data of the first line of the kind, else memory's
abbrev pub copy_where : (Line → Bool) → List Cell → ℕ × Option ℕ → ℕ × Option ℕ
copy_where kind [] memory = memory
copy_where kind (x ∷ xs) memory = if kind x.line then x.copy else copy_where kind xs memory

-- what a core that asks is given: the data of an M, O or E line, else memory's
abbrev pub supplied : Block → ℕ × Option ℕ
supplied b = copy_where supplies b.lines b.memory

-- some line is valid
abbrev pub has_copy : Block → Bool
has_copy b = list_any (λ x. is_valid x.line) b.lines

-- the data of the first core's valid copy, else memory's: the value of the address and its writer
abbrev pub current_of : Block → ℕ × Option ℕ
current_of b = copy_where is_valid b.lines b.memory

-- memory or a valid line has these data
abbrev pub HasBlock : Block → ℕ × Option ℕ → Type 0
HasBlock b copy = (b.memory ≡ copy)
    ⊎ ((c : ℕ) × IsTrue (is_valid (cell_of b c).line) × ((cell_of b c).copy ≡ copy))
