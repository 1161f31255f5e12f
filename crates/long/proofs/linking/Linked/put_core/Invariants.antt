use Rattle.std.proofs.Common.{◌≤◌, ◌<◌, ◌+◌, ◌*◌, ℕ, length}
use Rattle.long.specs.Linked.{HasPairsOf, IsLinked, KeepsPairs}
use Rattle.long.specs.Steps.{MayBeLastOther, MayBeLastStore}
use Rattle.long.proofs.linking.Linked.put_core.Given as goal

abbrev pub invariant-loop-place : goal.invariant-loop-place
invariant-loop-place l = record {
  few : length l.self.list.items ≤ 5 * (l.start + l.place);
  linked : IsLinked l.recording l.self;
  kept : KeepsPairs l.fn.self l.self;
  store : MayBeLastStore l.recording l.start l.store (l.start + l.place);
  other : MayBeLastOther l.recording l.start l.other (l.start + l.place);
  here : (i : ℕ) → i < l.place → HasPairsOf l.recording (l.start + i) l.self;
}
