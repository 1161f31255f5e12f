use Rattle.std.proofs.Common.{refl}
use Rattle.report.proofs.answering.answer.Goals as goal

pub returns-in-Ok-write_all-clause-whole : goal.returns-in-Ok-write_all-clause-whole
returns-in-Ok-write_all-clause-whole g c = (
  c.in-Ok.bytes.items,
  c.in-Ok.ensures.ok,
  (
    c.in_ok-outcome.field-0,
    rw c.deref.ensures.value at c.in_ok-outcome.ensures,
    refl,
    rw c.deref-2.ensures.value at c.in-Ok-write_all.ensures.ok,
  ),
)

pub returns-clause-begun : goal.returns-clause-begun
returns-clause-begun g c failed = (
  c.in-Ok.bytes.items,
  c.in-Ok.ensures.ok,
  (
    c.in_ok-outcome.field-0,
    rw c.deref.ensures.value at c.in_ok-outcome.ensures,
    c.in-Err.ensures.err.0,
    rw c.deref-2.ensures.value at c.in-Err.ensures.err.1,
  ),
)
