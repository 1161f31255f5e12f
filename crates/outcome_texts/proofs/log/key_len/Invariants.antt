use Rattle.std.proofs.Common.{◌≡◌, ◌+◌, drop}
use Rattle.std.specs.List.{prefix_len}
use Rattle.outcome_texts.specs.Log.{no_equals}
use Rattle.outcome_texts.proofs.log.key_len.Given as goal

abbrev pub invariant-loop-b : goal.invariant-loop-b
invariant-loop-b l = record {
  counted : l.count ≡ l.b-index;
  rest : prefix_len no_equals l.word ≡ l.count + prefix_len no_equals (drop l.b-index l.word);
}
