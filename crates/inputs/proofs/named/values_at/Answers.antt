use Rattle.std.proofs.Common.{sym}
use Rattle.inputs.proofs.named.values_at.Goals as goal

pub returns-in-Some-clause-err : goal.returns-in-Some-clause-err
returns-in-Some-clause-err g c = (
  c.as_slice.result.now,
  rw c.as_slice.ensures.value c.in_ok-bytes.ensures.given,
  c.in-Err.refusal,
  c.in-Err.ensures,
  sym (rw c.in-Some.is at c.in_ok-line-in-Err.ensures),
)
