-- What puts the nodes of a picture in their places: the cores from left to right, and the events of a memory
-- order from top to bottom.
use Rattle.std.specs.Prelude.{◌++◌, ◌==◌, ◌+◌, ◌-◌, [], ℕ, zero, suc, Bool, Option, Some, None, List}
use Rattle.std.specs.Prelude.{codes, decimal, length, slice_index, if◌then◌else◌}
use Rattle.recording.specs.Execution.{Execution, core_of}
use Rattle.long.specs.declared.answer.LongAnswer.{LongAnswer}
use Rattle.long.specs.declared.answer.LongAnswer.TheVariants.{Order, Overlook, Cycle}
use Rattle.drawing.specs.declared.drawn.Layout.{Layout}
use Rattle.drawing.specs.declared.drawn.Layout.TheVariants.{Ranks, Columns}
use Rattle.texts.specs.Below.{texts_below}
use Rattle.drawing.specs.Nodes.{first_on_core}

-- the topmost node of a core whose first drawn event is this one
abbrev pub top_node : Layout → ℕ → Option ℕ → List ℕ
top_node layout c None = []
top_node Ranks c (Some e) = codes " h" ++ decimal c
top_node Columns c (Some e) = codes " e" ++ decimal e

-- the topmost node of a core, if an event of it is drawn
abbrev pub top_of_core : Execution → List ℕ → Layout → ℕ → List ℕ
top_of_core x ks layout c = top_node layout c (first_on_core x ks c)

-- the line from the invisible node above all cores to each core
abbrev pub top_line : Execution → List ℕ → Layout → List ℕ
top_line x ks layout = codes "  top -> {" ++ texts_below (top_of_core x ks layout) (length x.cores)
    ++ codes " } [style=\"invis\"];\n"

-- the number of the event at place i of a memory order; the order has places in ks
abbrev pub number_in_order : List ℕ → List ℕ → ℕ → ℕ
number_in_order ks m i = slice_index ks (slice_index m i)

-- whether it is an event of a core
abbrev pub is_on_core : Execution → List ℕ → List ℕ → ℕ → ℕ → Bool
is_on_core x ks m c i = core_of x (number_in_order ks m i) == c

-- the rank of the last event of a core among the first n of a memory order, of which the first has rank 1;
-- without one 0, the rank of the node above the events of the core
abbrev pub last_rank : Execution → List ℕ → List ℕ → ℕ → ℕ → ℕ
last_rank x ks m c zero = 0
last_rank x ks m c (suc i) = if is_on_core x ks m c i then i + 1 else last_rank x ks m c i

-- the node of a core that has this rank
unfoldable pub ranked_node : List ℕ → List ℕ → ℕ → ℕ → List ℕ
ranked_node ks m c r = if r == 0 then codes "  h" ++ decimal c
    else codes "  e" ++ decimal (number_in_order ks m (r - 1))

-- the line that puts the event at place i below the node of rank r
abbrev pub rank_line : List ℕ → List ℕ → ℕ → ℕ → ℕ → List ℕ
rank_line ks m c i r = ranked_node ks m c r ++ (codes " -> e" ++ decimal (number_in_order ks m i))
    ++ (codes " [minlen=\"" ++ decimal (i + 1 - r)) ++ codes "\", style=\"invis\"];\n"

-- this line, if the event is one of the core
unfoldable pub rank_text : Execution → List ℕ → List ℕ → ℕ → ℕ → ℕ → List ℕ
rank_text x ks m c i r = if is_on_core x ks m c i then rank_line ks m c i r else []

-- this line, below the last event of the core before
abbrev pub next_rank : Execution → List ℕ → List ℕ → ℕ → ℕ → List ℕ
next_rank x ks m c i = rank_text x ks m c i (last_rank x ks m c i)

-- the lines that put the events of a core one below the other
abbrev pub core_ranks : Execution → List ℕ → List ℕ → ℕ → List ℕ
core_ranks x ks m c = texts_below (next_rank x ks m c) (length m)

-- the lines that put the events of a memory order one below the other
unfoldable pub ranks_text : Execution → List ℕ → LongAnswer → List ℕ
ranks_text x ks (Order m) = texts_below (core_ranks x ks m.items) (length x.cores)
ranks_text x ks (Overlook l s) = []
ranks_text x ks (Cycle c) = []
