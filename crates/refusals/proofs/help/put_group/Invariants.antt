use Rattle.std.proofs.Common.{◌≡◌, ◌++◌, drop, map}
use Rattle.std.specs.List.{flat_map}
use Rattle.refusals.specs.Meanings.{group_text, meaning}
use Rattle.refusals.specs.Table.{group_of, texts_of}
use Rattle.refusals.proofs.help.put_group.Given as goal

abbrev pub invariant-loop-refusal : goal.invariant-loop-refusal
invariant-loop-refusal l =
    l.out.items ++ flat_map meaning (map texts_of (drop l.refusal-index l.refusals))
    ≡ l.fn.out.items ++ group_text (group_of l.group)
