-- What a store buffer is: its entries, oldest first, and how many there may be.
use Rattle.std.specs.Prelude.{ℕ, List, [], ◌∷◌, ◌==◌, Option, None, Some, if◌then◌else◌}
use Rattle.write_buffer.specs.declared.entry.Entry.{Entry}

-- the entries from the oldest to the youngest, and the most that may wait
pub record Buffer : Type 0 where
  pub entries : List Entry
  pub capacity : ℕ

-- the second, unless there is a first
abbrev pub or_else : Option Entry → Option Entry → Option Entry
or_else (Some x) other = Some x
or_else None other = other

-- the youngest entry of an address
abbrev pub youngest : List Entry → ℕ → Option Entry
youngest [] a = None
youngest (x ∷ xs) a = or_else (youngest xs a) (if x.addr == a then Some x else None)
