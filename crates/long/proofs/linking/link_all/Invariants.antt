use Rattle.std.proofs.Common.{◌≡◌, ◌≤◌, ◌<◌, ◌*◌, ℕ, length}
use Rattle.relations.specs.Indexed.{events_below}
use Rattle.long.specs.Linked.{HasPairsOf, IsLinked}
use Rattle.long.proofs.linking.link_all.Given as goal

abbrev pub invariant-loop-core : goal.invariant-loop-core
invariant-loop-core l = record {
  start : l.start ≡ events_below l.recording l.core;
  few : length l.linked.list.items ≤ 5 * l.start;
  linked : IsLinked l.recording l.linked;
  here : (e : ℕ) → e < l.start → HasPairsOf l.recording e l.linked;
}
