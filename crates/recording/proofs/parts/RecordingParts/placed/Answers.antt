use Rattle.std.proofs.Common.{◌≡◌, ℕ, List, arith, subst, sym}
use Rattle.recording.specs.Execution.{Execution, event_count}
use Rattle.recording.specs.Listed.{AreAllPlaced}
use Rattle.recording.specs.Recording.{IsWithinLimits}
use Rattle.recording.specs.RecordingLaws.{within_of_size}
use Rattle.recording.specs.Refusals.{HasSource, HasValue}
use Rattle.recording.specs.declared.slots.PackedSlot.{PackedSlot}
use Rattle.recording.proofs.Refused.{recording}
use Rattle.recording.proofs.WriteLists.{written_over}
use Rattle.recording.proofs.parts.RecordingParts.placed.Goals as goal

pub first_without_list-requires-clause-within : goal.first_without_list-requires-clause-within
first_without_list-requires-clause-within c =
    within_of_size c.args.size c.args.self.now
    (subst (λ (x : Execution). IsWithinLimits c.args.size x) c.new-numbered.ensures c.in_default-wrong_part.ensures.0)

pub returns-in-None-clause-ok : goal.returns-in-None-clause-ok
returns-in-None-clause-ok c =
    let right = subst (λ (x : Execution). IsWithinLimits c.args.size x × ((e : ℕ) → HasSource x e)
    × ((e : ℕ) → HasValue x e)) c.new-numbered.ensures c.in_default-wrong_part.ensures in
    let lists = rw c.in-None.is at c.first_without_list.ensures.least in (
      recording c.args.self.now right.0 right.1 right.2 lists.0,
      subst (λ (slots : List PackedSlot). AreAllPlaced c.args.self.now slots)
          (sym (written_over c.into_slots-slots.result.len c.first_without_list.new.slots
          c.into_slots-slots.result.items (omega (
            arith,
            c.first_without_list.ensures.size,
            subst (λ (x : Execution). c.into_slots-slots.result.len ≡ event_count x) c.new-numbered.ensures
                (omega (arith, c.into_slots-slots.ensures.count, c.into_slots-slots.result.ok.0)),
          ))))
          lists.1,
    )

pub returns-in-Some-first_without_list-clause-err : goal.returns-in-Some-first_without_list-clause-err
returns-in-Some-first_without_list-clause-err c =
    let right = subst (λ (x : Execution). IsWithinLimits c.args.size x × ((e : ℕ) → HasSource x e)
    × ((e : ℕ) → HasValue x e)) c.new-numbered.ensures c.in_default-wrong_part.ensures in
    (right.0, right.1, right.2, rw c.in-Some-first_without_list.is at c.first_without_list.ensures.least)
