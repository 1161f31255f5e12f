-- The edges that an answer is about.
use Rattle.std.specs.Prelude.{◌≡◌, ◌++◌, ◌∷◌, [], ℕ, zero, suc, List, Some, length}
use Rattle.std.specs.Prelude.{slice_index}
use Rattle.recording.specs.Execution.{Execution}
use Rattle.relations.specs.declared.reason.Reason.TheVariants.{Po, Fr}
use Rattle.relations.specs.Cycle.{next_in_cycle}
use Rattle.relations.specs.Forced.{IsReason}
use Rattle.long.specs.declared.answer.LongAnswer.{LongAnswer}
use Rattle.long.specs.declared.answer.LongAnswer.TheVariants.{Order, Overlook, Cycle}
use Rattle.drawing.specs.declared.edges.Edge.{Edge}

-- the edge from place i of a cycle to the event after it, by the first reason that holds
pub record IsCycleEdge (x : Execution) (c : List ℕ) (i : ℕ) (edge : Edge) : Type 0 where
  pub from : edge.first ≡ slice_index c i
  pub to : edge.second ≡ next_in_cycle c i
  pub why : IsReason x edge.first edge.second (Some edge.reason)

-- the edges from the first n events of a cycle
abbrev pub AreCycleEdges : Execution → List ℕ → ℕ → List Edge → Type 0
AreCycleEdges x c zero edges = edges ≡ []
AreCycleEdges x c (suc i) edges = (before : List Edge) × (edge : Edge) × AreCycleEdges x c i before
    × IsCycleEdge x c i edge × (edges ≡ before ++ edge ∷ [])

-- the edges of a cycle; the store before the load that overlooks it in program order, and the load before
-- the store since it read an older value; none of an order
abbrev pub AreBold : Execution → LongAnswer → List Edge → Type 0
AreBold x (Order m) edges = edges ≡ []
AreBold x (Overlook l s) edges = edges ≡ record { first = s; second = l; reason = Po }
    ∷ record { first = l; second = s; reason = Fr } ∷ []
AreBold x (Cycle c) edges = AreCycleEdges x c.items (length c.items) edges
