-- Edges of a picture: program order (po), reads-from (rf), coherence order (co) and from-read (fr).
use Rattle.std.specs.Prelude.{◌+◌, ◌==◌, ◌&&◌, ℕ, Bool, Option, Some, None, List, nat_lt, slice_get}
use Rattle.std.specs.Prelude.{if◌then◌else◌}
use Rattle.std.specs.List.{list_any}
use Rattle.recording.specs.Event.{read_address, written_address}
use Rattle.recording.specs.Execution.{Execution, event_count, event_at, core_of, write_list, source_of}
use Rattle.recording.specs.Order.{place}
use Rattle.relations.specs.declared.reason.Reason.{Reason}
use Rattle.relations.specs.Forced.{first_newer_place}
use Rattle.relations.specs.declared.reason.Reason.TheVariants.{Po, Wo, Rf, Fr}
use Rattle.drawing.specs.declared.edges.Edge.{Edge}

-- an edge to an event, if there is one, and an edge from it
abbrev pub edge_to : ℕ → Reason → Option ℕ → Option Edge
edge_to e r None = None
edge_to e r (Some f) = Some (record { first = e; second = f; reason = r })

abbrev pub edge_from : ℕ → Reason → Option ℕ → Option Edge
edge_from e r None = None
edge_from e r (Some f) = Some (record { first = f; second = e; reason = r })

-- the event after e on its core
unfoldable pub next_on_core : Execution → ℕ → Option ℕ
next_on_core x e = if nat_lt (e + 1) (event_count x) && (core_of x (e + 1) == core_of x e)
    then Some (e + 1) else None

-- the write after e in the write list of an address
abbrev pub next_in_list : Execution → ℕ → Option ℕ → Option ℕ
next_in_list x e None = None
next_in_list x e (Some a) = slice_get (write_list x a) (place (write_list x a) e + 1)

-- an event, if it is not e
abbrev pub other_than : ℕ → Option ℕ → Option ℕ
other_than e None = None
other_than e (Some f) = if f == e then None else Some f

-- the first write of an address that is newer than what e read, if it is not e
abbrev pub first_newer : Execution → ℕ → Option ℕ → Option ℕ
first_newer x e None = None
first_newer x e (Some a) =
    other_than e (slice_get (write_list x a) (first_newer_place (write_list x a) (source_of x e)))

-- the edges of an event: to the next of its core, from its source, to the next write of the address that
-- it writes, and to the first write that is newer than what it read
abbrev pub po_edge : Execution → ℕ → Option Edge
po_edge x e = edge_to e Po (next_on_core x e)

abbrev pub rf_edge : Execution → ℕ → Option Edge
rf_edge x e = edge_from e Rf (source_of x e)

abbrev pub co_edge : Execution → ℕ → Option Edge
co_edge x e = edge_to e Wo (next_in_list x e (written_address (event_at x e)))

abbrev pub fr_edge : Execution → ℕ → Option Edge
fr_edge x e = edge_to e Fr (first_newer x e (read_address (event_at x e)))

-- a number for each reason
abbrev pub rank : Reason → ℕ
rank Po = 0
rank Wo = 1
rank Rf = 2
rank Fr = 3

-- whether two edges are one
abbrev pub is_same_edge : Edge → Edge → Bool
is_same_edge d e = (d.first == e.first) && ((d.second == e.second) && (rank d.reason == rank e.reason))

-- whether an edge is among some
abbrev pub is_drawn : List Edge → Edge → Bool
is_drawn edges e = list_any (is_same_edge e) edges
