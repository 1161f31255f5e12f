use Rattle.std.proofs.Common.{◌≡◌, is_some, drop}
use Rattle.std.specs.List.{list_any}
use Rattle.values_text.proofs.writing.is_one_known.Given as goal

abbrev pub invariant-loop-value : goal.invariant-loop-value
invariant-loop-value l = list_any is_some (drop l.value-index l.final_values) ≡ list_any is_some l.final_values
