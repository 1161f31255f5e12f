use Rattle.std.proofs.Common.{◌≡◌, ◌+◌, drop}
use Rattle.outcome_texts.specs.Log.{blanks}
use Rattle.outcome_texts.proofs.head.blanks.Given as goal

abbrev pub invariant-loop-b : goal.invariant-loop-b
invariant-loop-b l = record {
  counted : l.count ≡ l.b-index;
  rest : blanks l.text ≡ l.count + blanks (drop l.b-index l.text);
}
