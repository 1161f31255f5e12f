use Rattle.std.proofs.Common.{inl, inr, arith, sym, ap, ◌∙◌}
use Rattle.std.proofs.lemmas.Bool.{cases_lt}
use Rattle.std.proofs.lemmas.List.{get_or_past}
use Rattle.recording.specs.Event.{value_read}
use Rattle.recording.specs.EventLaws.{event_past}
use Rattle.outcomes.proofs.recorded.reads_of.Goals as goal

pub returns-clause-reads : goal.returns-clause-reads
returns-clause-reads c e = elim (cases_lt e c.loop-number.number) [
  | inl low ↦ c.loop-number.invariant.reads e low
  | inr past ↦
      get_or_past c.loop-number.reads.items e 0 (omega (arith, past, c.loop-number.invariant.size))
      ∙ sym (ap value_read (event_past c.args.recording.now e
      (omega (arith, past, c.loop-number-test.false, c.loop-number.auto.number-end, c.len-number-end.ensures))))
]
