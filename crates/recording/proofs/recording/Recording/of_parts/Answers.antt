use Rattle.std.proofs.Common.{◌≡◌, List, arith, subst, sym}
use Rattle.recording.specs.Execution.{Execution, event_count}
use Rattle.recording.specs.Listed.{AreAllPlaced}
use Rattle.recording.specs.declared.slots.PackedSlot.{PackedSlot}
use Rattle.recording.proofs.Refused.{all_placed}
use Rattle.recording.proofs.WriteLists.{written_over}
use Rattle.recording.proofs.recording.Recording.of_parts.Goals as goal

pub invariant_of-result : goal.invariant_of-result
invariant_of-result c = (
  c.requires.recording,
  subst (λ (slots : List PackedSlot). AreAllPlaced c.args.parts slots)
      (sym (written_over c.into_slots-slots.result.len c.first_without_list-refused.new.slots
      c.into_slots-slots.result.items (omega (
        arith,
        c.first_without_list-refused.ensures.size,
        subst (λ (x : Execution). c.into_slots-slots.result.len ≡ event_count x) c.new.ensures
            (omega (arith, c.into_slots-slots.ensures.count, c.into_slots-slots.result.ok.0)),
      ))))
      (all_placed c.args.parts c.first_without_list-refused.new.slots c.first_without_list-refused.result
      c.requires.recording c.first_without_list-refused.ensures.least),
)
