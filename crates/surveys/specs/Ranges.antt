-- Some of the lines of bytes.
use Rattle.std.specs.Prelude.{◌-◌, ◌∷◌, [], ℕ, List, Option, None, Some, drop, filter, if◌then◌else◌, suc, take, zero}
use Rattle.std.specs.List.{slice_split}
use Rattle.surveys.specs.declared.range.LineRange.{LineRange}
use Rattle.surveys.specs.Lines.{is_end, is_some_line}

-- this many of some lines, or all
abbrev pub at_most : Option ℕ → List (List ℕ) → List (List ℕ)
at_most None all = all
at_most (Some n) all = take n all

-- the lines of a range, of which the first of all is 1; then the empty ones among them are left out
abbrev pub lines_in : LineRange → List ℕ → List (List ℕ)
lines_in range bytes = filter is_some_line (at_most range.count (drop (range.first - 1) (slice_split is_end bytes)))

-- bytes with an end of a line in the place of each byte that comes before this many ends of lines, and of each that
-- comes after as many more as are counted
abbrev pub masked : ℕ → Option ℕ → List ℕ → List ℕ
masked before count [] = []
masked (suc n) count (b ∷ bytes) = 10 ∷ masked (if is_end b then n else suc n) count bytes
masked zero None (b ∷ bytes) = b ∷ bytes
masked zero (Some zero) (b ∷ bytes) = 10 ∷ masked zero (Some zero) bytes
masked zero (Some (suc n)) (b ∷ bytes) = b ∷ masked zero (Some (if is_end b then n else suc n)) bytes
