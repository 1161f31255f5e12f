use Rattle.std.proofs.Common.{◌≡◌, ◌≤◌, ◌<◌, ℕ, Some, slice_get}
use Rattle.std.specs.List.{Contains}
use Rattle.completion.specs.declared.moves.Turn.{Turn}
use Rattle.completion.specs.declared.ranking.Choice.{Choice}
use Rattle.completion.proofs.ranking.take.Given as goal

abbrev pub invariant-loop-i : goal.invariant-loop-i
invariant-loop-i l = record {
  more : (t : Turn) → Contains l.fn.moves.items t → Contains l.moves.items t;
  taken : (i : ℕ) (x : Choice) → l.from ≤ i → i < l.i → slice_get l.found i ≡ Some x → x.rank ≡ l.rank
      → Contains l.moves.items x.turn;
}
