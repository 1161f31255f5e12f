use Rattle.std.proofs.Common.{◌≡◌, drop, map}
use Rattle.refusals.specs.Table.{named_in, texts_of}
use Rattle.refusals.proofs.table.named_in.Given as goal

abbrev pub invariant-loop-refusal : goal.invariant-loop-refusal
invariant-loop-refusal l =
    named_in l.name (map texts_of (drop l.refusal-index l.refusals)) ≡ named_in l.name (map texts_of l.refusals)
