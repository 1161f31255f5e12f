-- The events of a picture: a cluster for each core that has a drawn event.
use Rattle.std.specs.Prelude.{◌++◌, ◌==◌, ◌∷◌, [], ℕ, Option, List, codes, decimal, is_some, length}
use Rattle.std.specs.Prelude.{slice_index, if◌then◌else◌}
use Rattle.std.specs.List.{find, flat_map}
use Rattle.event_texts.specs.Names.{Names, label_of}
use Rattle.recording.specs.declared.event.Event.{Event}
use Rattle.recording.specs.Execution.{Execution, event_count, event_at, core_of}
use Rattle.drawing.specs.declared.drawn.Layout.{Layout}
use Rattle.drawing.specs.declared.drawn.Layout.TheVariants.{Ranks, Columns}
use Rattle.texts.specs.Below.{texts_below}
use Rattle.drawing.specs.Edges.{po_edge}
use Rattle.event_texts.specs.Events.{event_text}
use Rattle.drawing.specs.Gaps.{gap_text}

-- the first of the numbers that is an event of a core
abbrev pub first_on_core : Execution → List ℕ → ℕ → Option ℕ
first_on_core x ks c = find (λ k. core_of x k == c) ks

-- the beginning of the line of an event
abbrev pub node_heading : ℕ → List ℕ
node_heading e = codes "    e" ++ (decimal e ++ (codes " [label=\"" ++ (decimal e ++ codes ": ")))

-- a byte of a label, as a string of DOT has it
abbrev pub escaped : ℕ → List ℕ
escaped b = if b == 34 then codes "\\\"" else (if b == 92 then codes "\\\\"
    else (if b == 38 then codes "&amp;" else b ∷ []))

-- a label as a line of its node
unfoldable pub node_label : List ℕ → List ℕ
node_label label = if length label == 0 then [] else codes "\\n" ++ flat_map escaped label

-- the line of an event, with its label
abbrev pub node_line : Names → ℕ → Event → List ℕ
node_line names e event = node_heading e ++ event_text names event ++ node_label (label_of names e) ++ codes "\"];\n"

-- the line of event i of y, which is event `ks i` of x, and of what is left out after it
abbrev pub node_lines : Execution → Names → List ℕ → Execution → ℕ → List ℕ
node_lines x names ks y i = node_line names (slice_index ks i) (event_at x (slice_index ks i))
    ++ gap_text ks (po_edge y i)

-- these lines, if the event is one of this core
unfoldable pub node_of_core : Execution → Names → List ℕ → Execution → ℕ → ℕ → List ℕ
node_of_core x names ks y c i = if core_of x (slice_index ks i) == c then node_lines x names ks y i else []

-- the first lines of a core
abbrev pub cluster_heading : ℕ → List ℕ
cluster_heading c = codes "  subgraph cluster_" ++ (decimal c ++ (codes " {\n    label=\"core " ++ (decimal c
    ++ codes "\";\n")))

-- the invisible node above the events of a core in a picture of a memory order
abbrev pub head_line : Layout → ℕ → List ℕ
head_line Ranks c = codes "    h" ++ decimal c ++ codes " [shape=\"point\", style=\"invis\"];\n"
head_line Columns c = []

-- the lines of a core
abbrev pub cluster_lines : Execution → Names → List ℕ → Execution → Layout → ℕ → List ℕ
cluster_lines x names ks y layout c = cluster_heading c ++ head_line layout c
    ++ texts_below (node_of_core x names ks y c) (event_count y) ++ codes "  }\n"

-- the lines of a core that has a drawn event
unfoldable pub cluster_text : Execution → Names → List ℕ → Execution → Layout → ℕ → List ℕ
cluster_text x names ks y layout c = if is_some (first_on_core x ks c)
    then cluster_lines x names ks y layout c else []
