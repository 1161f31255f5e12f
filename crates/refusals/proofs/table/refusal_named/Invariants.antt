use Rattle.std.proofs.Common.{◌≡◌, drop}
use Rattle.refusals.specs.Table.{named_among, refusal_named}
use Rattle.refusals.specs.declared.table.TheConstants.{KINDS}
use Rattle.refusals.proofs.table.refusal_named.Given as goal

abbrev pub invariant-loop-kind : goal.invariant-loop-kind
invariant-loop-kind l = named_among l.name (drop l.kind-index KINDS.now) ≡ refusal_named l.name
