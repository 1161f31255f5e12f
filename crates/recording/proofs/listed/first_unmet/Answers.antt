use Rattle.std.proofs.Common.{◌≡◌, inl, inr, arith, ap, sym, ◌∙◌}
use Rattle.std.proofs.lemmas.Bool.{cases_lt}
use Rattle.std.proofs.lemmas.List.{get_or_default}
use Rattle.recording.specs.Listed.{quiet, slot_at, unpacked}
use Rattle.recording.proofs.listed.first_unmet.Goals as goal

pub loop-slot-preserved : goal.loop-slot-preserved
loop-slot-preserved c =
    let i = c.loop-slot.slot-index in
    let was = c.loop-slot.invariant in
    let now = c.unmet_below-first.ensures in record {
      bound = omega (arith, now.bound, was.bound);
      least = λ e a w below is. elim (cases_lt e i) [
        | inl before ↦ omega (arith, now.bound, was.least e a w before is)
        | inr last ↦
            let same : i ≡ e = omega arith in
            now.least a w (c.slot.ensures
            ∙ ap unpacked (get_or_default c.args.slots.now i _ quiet c.loop-slot-test.true)
            ∙ (ap (slot_at c.args.slots.now) same ∙ is))
      ];
      unmet = λ less. elim (cases_lt c.unmet_below-first.result c.loop-slot.first) [
        | inl fewer ↦
            let here = now.unmet fewer in
            let stands = c.slot.ensures
            ∙ ap unpacked (get_or_default c.args.slots.now i _ quiet c.loop-slot-test.true) in
            (i, here.0, sym stands ∙ here.1)
        | inr more ↦
            let same : c.unmet_below-first.result ≡ c.loop-slot.first = omega (arith, more, now.bound) in
            rw same (was.unmet (omega (arith, less, same)))
      ];
    }
