use Rattle.std.proofs.Common.{◌≡◌, ◌++◌, ◌+◌, [], take, drop, map, length}
use Rattle.std.specs.List.{All, sum_by}
use Rattle.machine.specs.State.{cores_from}
use Rattle.machine.proofs.record.record_all.Given as goal

abbrev pub invariant-loop-ops : goal.invariant-loop-ops
invariant-loop-ops l = record {
  room : l.lists.room ≡ l.initial.lists.room;
  made : map (λ v. v.items) l.lists.items ++ cores_from l.first (drop l.ops-index l.program) l.reads
      ≡ cores_from 0 l.program l.reads;
  size : length l.lists.items ≡ l.ops-index;
  first : l.first ≡ sum_by (λ ops. length ops) (take l.ops-index l.program);
  left : length l.events.items + l.ops-index ≡ length l.program;
  fresh : All (λ b. b ≡ record { items = []; room = length l.reads }) l.events.items;
}
