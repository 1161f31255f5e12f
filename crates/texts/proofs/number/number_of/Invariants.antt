use Rattle.std.proofs.Common.{◌≡◌, ◌<◌, ◌^◌, drop}
use Rattle.texts.specs.Decimals.{value_from}
use Rattle.texts.proofs.number.number_of.Given as goal

abbrev pub invariant-loop-b : goal.invariant-loop-b
invariant-loop-b l = record {
  small : l.total < 2 ^ 32;
  value : value_from l.total (drop l.b-index l.text) ≡ value_from 0 l.text;
}
