use Rattle.std.proofs.Common.{◌≡◌, ◌++◌, drop}
use Rattle.std.specs.List.{flat_map}
use Rattle.refusals.specs.Meanings.{kind_text}
use Rattle.refusals.proofs.help.put_kinds.Given as goal

abbrev pub invariant-loop-kind : goal.invariant-loop-kind
invariant-loop-kind l =
    l.out.items ++ flat_map kind_text (drop l.kind-index l.kinds) ≡ l.fn.out.items ++ flat_map kind_text l.kinds
