use Rattle.std.proofs.Common.{Vec, Global, ℕ}
use Rattle.std.proofs.lemmas.Result.{IfOk-weaker}
use Rattle.bitrow.specs.Rows.{AreNumbers}
use Rattle.reduction.specs.Needed.{AreNeeded}
use Rattle.reduction.proofs.Following.{are_needed}
use Rattle.reduction.proofs.marks.needed_events.Goals as goal

pub returns : goal.returns
returns c =
    IfOk-weaker c.to_numbers.result (λ (v : Vec ℕ Global). AreNumbers c.in_ok-marks.marks v.items)
    (λ (v : Vec ℕ Global). AreNeeded c.args.recording.now c.args.events.now v.items)
    (λ v. are_needed c.args.recording.now c.args.events.now v.items c.in_ok-marks.marks c.in_ok-marks.ensures.len
    c.in_ok-marks.ensures.needed) c.to_numbers.ensures
