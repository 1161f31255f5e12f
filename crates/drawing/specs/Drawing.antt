-- An order, an overlook or a cycle as a picture: a directed graph in the DOT language of Graphviz.
use Rattle.std.specs.Prelude.{◌≡◌, ◌++◌, [], ℕ, List, Option, Some, None, codes, decimal, length}
use Rattle.std.specs.Prelude.{slice_index, if◌then◌else◌}
use Rattle.std.specs.List.{flat_map}
use Rattle.event_texts.specs.Names.{Names}
use Rattle.recording.specs.Execution.{Execution, event_count}
use Rattle.relations.specs.declared.reason.Reason.{Reason}
use Rattle.relations.specs.declared.reason.Reason.TheVariants.{Po, Wo, Rf, Fr}
use Rattle.long.specs.declared.answer.LongAnswer.{LongAnswer}
use Rattle.long.specs.declared.answer.LongAnswer.TheVariants.{Order, Overlook, Cycle}
use Rattle.drawing.specs.declared.edges.Edge.{Edge}
use Rattle.drawing.specs.declared.drawn.Layout.{Layout}
use Rattle.drawing.specs.declared.drawn.Layout.TheVariants.{Ranks, Columns}
use Rattle.drawing.specs.declared.drawn.Weight.{Weight}
use Rattle.drawing.specs.declared.drawn.Weight.TheVariants.{Bold, Thin}
use Rattle.drawing.specs.Bold.{AreBold}
use Rattle.drawing.specs.Edges.{po_edge, rf_edge, co_edge, fr_edge, is_drawn}
use Rattle.drawing.specs.Gaps.{is_gap, gap_start, gap_end}
use Rattle.texts.specs.Below.{texts_below}
use Rattle.drawing.specs.Nodes.{cluster_text}
use Rattle.drawing.specs.Ranks.{top_line, ranks_text}

-- from which event an edge goes to which; ks has the numbers that they are drawn under
abbrev pub ends_text : List ℕ → Edge → List ℕ
ends_text ks e = codes "  e" ++ decimal (slice_index ks e.first) ++ codes " -> e" ++ decimal (slice_index ks e.second)

-- the name and the colour of an edge
abbrev pub look_text : Reason → List ℕ
look_text Po = codes " [xlabel=\"po\", color=\"black\", fontcolor=\"black\""
look_text Wo = codes " [xlabel=\"co\", color=\"blue\", fontcolor=\"blue\""
look_text Rf = codes " [xlabel=\"rf\", color=\"red\", fontcolor=\"red\""
look_text Fr = codes " [xlabel=\"fr\", color=\"#ffa040\", fontcolor=\"#ffa040\""

-- how thick it is
abbrev pub style_text : Weight → List ℕ
style_text Bold = codes ", style=\"bold\""
style_text Thin = []

-- that it puts no event above another: program order alone does, where there is no memory order
abbrev pub free_text : Layout → Reason → List ℕ
free_text Ranks r = codes ", constraint=\"false\""
free_text Columns Po = []
free_text Columns Wo = codes ", constraint=\"false\""
free_text Columns Rf = codes ", constraint=\"false\""
free_text Columns Fr = codes ", constraint=\"false\""

-- the line of an edge
unfoldable pub edge_line : List ℕ → Layout → Weight → Edge → List ℕ
edge_line ks layout weight e = ends_text ks e ++ look_text e.reason ++ style_text weight
    ++ free_text layout e.reason ++ codes "];\n"

-- the line of an edge that is not drawn bold
unfoldable pub thin_line : List ℕ → Layout → List Edge → Option Edge → List ℕ
thin_line ks layout bold None = []
thin_line ks layout bold (Some e) = if is_drawn bold e then [] else edge_line ks layout Thin e

-- the lines of an edge of program order: over what is left out between its ends, or else its own
unfoldable pub po_lines : List ℕ → Layout → List Edge → Option Edge → List ℕ
po_lines ks layout bold None = []
po_lines ks layout bold (Some e) = if is_gap ks e
    then gap_start (slice_index ks e.first) (slice_index ks e.second) ++ gap_end (slice_index ks e.second)
    else thin_line ks layout bold (Some e)

-- the lines of the edges of an event that are not drawn bold
abbrev pub thin_lines : Execution → List ℕ → Layout → List Edge → ℕ → List ℕ
thin_lines y ks layout bold e = po_lines ks layout bold (po_edge y e) ++ thin_line ks layout bold (rf_edge y e)
    ++ thin_line ks layout bold (co_edge y e) ++ thin_line ks layout bold (fr_edge y e)

-- the lines before the cores
abbrev pub graph_heading : List ℕ
graph_heading = codes "digraph recording {\n  node [shape=\"plaintext\"];\n  newrank=\"true\";\n"
    ++ codes "  top [shape=\"point\", style=\"invis\"];\n"

-- the first lines, those of the nodes, and what puts them in their places
unfoldable pub nodes_text : Execution → Names → List ℕ → Execution → Layout → LongAnswer → List ℕ
nodes_text x names ks y layout v = graph_heading ++ texts_below (cluster_text x names ks y layout) (length x.cores)
    ++ top_line x ks layout ++ ranks_text x ks v

-- the events of a memory order stand one below the other
abbrev pub layout_of : LongAnswer → Layout
layout_of (Order m) = Ranks
layout_of (Overlook l s) = Columns
layout_of (Cycle c) = Columns

-- the picture of an answer on y with these edges bold; event i of y is event `ks i` of x
abbrev pub drawing_text : Execution → Names → List ℕ → Execution → LongAnswer → List Edge → List ℕ
drawing_text x names ks y v bold = nodes_text x names ks y (layout_of v) v
    ++ texts_below (thin_lines y ks (layout_of v) bold) (event_count y)
    ++ (flat_map (edge_line ks (layout_of v) Bold) bold ++ codes "}\n")

-- the text is a picture of the answer on y, whose events have the numbers ks in x, with these names of the
-- addresses of x
pub record IsDrawing (x : Execution) (names : Names) (ks : List ℕ) (y : Execution) (v : LongAnswer)
    (text : List ℕ) : Type 0 where
  pub bold : List Edge
  pub about : AreBold y v bold
  pub whole : text ≡ drawing_text x names ks y v bold
