use Rattle.std.proofs.Common.{◌≡◌, inl, inr, arith, subst}
use Rattle.std.proofs.lemmas.Bool.{cases_lt}
use Rattle.recording.specs.Refusals.{HasWriteList}
use Rattle.recording.proofs.Refused.{list_each, list_once}
use Rattle.recording.proofs.parts.RecordingParts.first_lists_right.Goals as goal

pub returns-clause-last : goal.returns-clause-last
returns-clause-last c less has =
    let x = c.args.self.now in
    let whole = c.first_lists_whole.result in
    elim (cases_lt whole c.place_lists-once.result) [
      | inl before ↦ c.first_lists_whole.ensures.last before (list_each x whole has)
      | inr all ↦
          let same : whole ≡ c.place_lists-once.result = omega (arith, all, c.first_lists_whole.ensures.bound) in
          c.place_lists-once.ensures.last (omega (arith, less, same))
          (list_once x c.place_lists-once.result (subst (HasWriteList x) same has))
    ]
