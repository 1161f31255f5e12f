-- What a picture leaves out between two events of a core: the events of a recording that have no number in
-- a list, where the list has the numbers of those that are drawn.
use Rattle.std.specs.Prelude.{◌++◌, ◌+◌, ◌-◌, [], ℕ, Bool, Option, Some, None, List, codes, decimal, nat_lt}
use Rattle.std.specs.Prelude.{slice_index, if◌then◌else◌}
use Rattle.drawing.specs.declared.edges.Edge.{Edge}

-- whether the numbers of the ends of an edge have others between them
abbrev pub is_gap : List ℕ → Edge → Bool
is_gap ks e = nat_lt (slice_index ks e.first + 1) (slice_index ks e.second)

-- the line of n events that are left out before event f
abbrev pub gap_line : ℕ → ℕ → List ℕ
gap_line f n = codes "    g" ++ decimal f ++ (codes " [label=\"" ++ (decimal n ++ codes " left out\"];\n"))

-- the line of the events that are left out between the ends of an edge of program order, if there are any
unfoldable pub gap_text : List ℕ → Option Edge → List ℕ
gap_text ks None = []
gap_text ks (Some e) = if is_gap ks e
    then gap_line (slice_index ks e.second) (slice_index ks e.second - slice_index ks e.first - 1) else []

-- the line from event e to what is left out before event f
abbrev pub gap_start : ℕ → ℕ → List ℕ
gap_start e f = codes "  e" ++ decimal e ++ (codes " -> g" ++ (decimal f
    ++ codes " [style=\"dotted\", arrowhead=\"none\"];\n"))

-- the line from what is left out before event f to that event
abbrev pub gap_end : ℕ → List ℕ
gap_end f = codes "  g" ++ decimal f ++ (codes " -> e" ++ (decimal f
    ++ codes " [style=\"dotted\", arrowhead=\"none\"];\n"))
