use Rattle.std.proofs.Common.{◌≡◌, ◌+◌, drop}
use Rattle.outcome_texts.specs.Log.{digits}
use Rattle.outcome_texts.proofs.head.digits.Given as goal

abbrev pub invariant-loop-b : goal.invariant-loop-b
invariant-loop-b l = record {
  counted : l.count ≡ l.b-index;
  rest : digits l.text ≡ l.count + digits (drop l.b-index l.text);
}
