use Rattle.std.proofs.Common.{◌≡◌, ◌+◌, drop}
use Rattle.std.specs.List.{prefix_len}
use Rattle.outcome_texts.specs.Log.{is_plain_byte}
use Rattle.outcome_texts.proofs.head.plain_len.Given as goal

abbrev pub invariant-loop-b : goal.invariant-loop-b
invariant-loop-b l = record {
  counted : l.count ≡ l.b-index;
  rest : prefix_len is_plain_byte l.line ≡ l.count + prefix_len is_plain_byte (drop l.b-index l.line);
}
