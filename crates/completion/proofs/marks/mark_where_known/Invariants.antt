use Rattle.std.proofs.Common.{◌≡◌, drop}
use Rattle.std.specs.List.{list_any}
use Rattle.completion.specs.Situation.{has_mark}
use Rattle.completion.proofs.marks.mark_where_known.Given as goal

abbrev pub invariant-loop-known : goal.invariant-loop-known
invariant-loop-known l = list_any (has_mark l.mark) l.values.sources
    ≡ list_any (has_mark l.mark) (drop l.known-index l.values.sources)
