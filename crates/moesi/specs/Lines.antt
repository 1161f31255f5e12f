-- What the five states of a line allow.
use Rattle.std.specs.Prelude.{Bool, true, false}
use Rattle.moesi.specs.declared.line.Line.{Line}
use Rattle.moesi.specs.declared.line.Line.TheVariants.{I, S, E, O, M}

-- the core has a copy, and may read it
abbrev pub is_valid : Line → Bool
is_valid I = false
is_valid line = true

-- no other core has a copy, and this one may write
abbrev pub is_exclusive : Line → Bool
is_exclusive E = true
is_exclusive M = true
is_exclusive line = false

-- memory may lack the line's data
abbrev pub is_owned : Line → Bool
is_owned O = true
is_owned M = true
is_owned line = false

-- the line gives its data in place of memory
abbrev pub supplies : Line → Bool
supplies I = false
supplies S = false
supplies line = true

-- the core has a copy that it may read alone, and that another core may own
abbrev pub is_shared : Line → Bool
is_shared S = true
is_shared line = false

-- the line once another core shares it: M becomes O, E becomes S, the others stay
abbrev pub lowered : Line → Line
lowered E = S
lowered M = O
lowered line = line

-- whether two cores may have lines of one address in these states: beside M or E the other is I, and at most
-- one is M or O
abbrev pub compatible : Line → Line → Bool
compatible I other = true
compatible line I = true
compatible S S = true
compatible S O = true
compatible O S = true
compatible line other = false
