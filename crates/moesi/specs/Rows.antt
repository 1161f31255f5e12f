-- The table of transactions, at one address.
use Rattle.std.specs.Prelude.{ℕ, if◌then◌else◌, Option, Result, Ok, Err}
use Rattle.moesi.specs.declared.line.Line.TheVariants.{S, E, M}
use Rattle.moesi.specs.declared.cell.Cell.{Cell}
use Rattle.moesi.specs.declared.word.Turn.{Turn}
use Rattle.moesi.specs.declared.word.Turn.TheVariants.{Share, Invalidate, LeaveStale}
use Rattle.moesi.specs.declared.error.CacheError.{CacheError}
use Rattle.moesi.specs.declared.error.CacheError.TheVariants.{C1, C2, C3, C4}
use Rattle.moesi.specs.Lines.{is_valid, is_exclusive, is_owned, is_shared, lowered}
use Rattle.moesi.specs.Block.{Block, cell_of, invalid, with_line, block_by, has_copy, supplied}

-- what a line becomes by a transaction of another core: it is shared, taken, or taken with a fault, which leaves
-- S as it is, with its old data
abbrev pub turned : Turn → Cell → Cell
turned Share x = record { line = lowered x.line; copy = x.copy }
turned Invalidate x = invalid
turned LeaveStale x = if is_shared x.line then x else invalid

-- GetS, allowed in I: the others become shared, the requester E where no other is valid, else S
abbrev pub get_s : Block → ℕ → Result Block CacheError
get_s b c =
    if is_valid (cell_of b c).line then Err C1
    else Ok (with_line (block_by (turned Share) b) c (record {
      line = if has_copy b then S else E;
      copy = supplied b;
    }))

-- GetM, allowed in I, S and O: the others turn, the requester becomes M
abbrev pub get_m_by : Turn → Block → ℕ → Result Block CacheError
get_m_by turn b c =
    if is_exclusive (cell_of b c).line then Err C2
    else Ok (with_line (block_by (turned turn) b) c (record { line = M; copy = supplied b }))

-- Put, allowed in S, E, O and M: M and O write memory, the requester becomes I
abbrev pub put : Block → ℕ → Result Block CacheError
put b c =
    if is_valid (cell_of b c).line
    then Ok (with_line (record {
      lines = b.lines;
      memory = if is_owned (cell_of b c).line then (cell_of b c).copy else b.memory;
    }) c invalid)
    else Err C3

-- a read, allowed in S, E, O and M: the line's data
abbrev pub read : Block → ℕ → Result (ℕ × Option ℕ) CacheError
read b c = if is_valid (cell_of b c).line then Ok (cell_of b c).copy else Err C3

-- a write, allowed in E and M: the line becomes M with the new data
abbrev pub write : Block → ℕ → ℕ × Option ℕ → Result Block CacheError
write b c written =
    if is_exclusive (cell_of b c).line then Ok (with_line b c (record { line = M; copy = written })) else Err C4
