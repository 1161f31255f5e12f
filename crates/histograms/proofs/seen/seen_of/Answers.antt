use Rattle.std.proofs.Common.{◌≡◌, ℕ, List, true, false, sym, subst, ◌∙◌}
use Rattle.recording.specs.Execution.{Execution}
use Rattle.recording.specs.Tso.{IsTsoOrder}
use Rattle.relations.specs.Consistency.{HasNoOrder}
use Rattle.verdicts.specs.declared.verdict.Verdict.{Verdict}
use Rattle.verdicts.specs.declared.verdict.Verdict.TheVariants.{Ordered, Overlook, Cycle}
use Rattle.verdicts.specs.Judgement.{IsVerdict}
use Rattle.histograms.specs.Seen.{is_violation}
use Rattle.histograms.proofs.seen.seen_of.Goals as goal

-- a verdict that is a violation says that there is no order
forbids : (x : Execution) (verdict : Verdict) → IsVerdict x verdict → is_violation verdict ≡ true → HasNoOrder x
forbids x (Ordered m) is bad = absurd cc
forbids x (Overlook l s) is bad = is.no_order
forbids x (Cycle c) is bad = is.no_order

-- another has one
allows : (x : Execution) (verdict : Verdict) → IsVerdict x verdict → is_violation verdict ≡ false
    → (m : List ℕ) × IsTsoOrder x m
allows x (Ordered m) is good = (m.items, is.order)
allows x (Overlook l s) is good = absurd cc
allows x (Cycle c) is good = absurd cc

pub returns-in_ok-outcome-in-Some : goal.returns-in_ok-outcome-in-Some
returns-in_ok-outcome-in-Some c =
    let j = rw c.in-Some.is at c.in_ok-recording.ensures in
    let bad_without = forbids c.in-Some.field-0.recording c.in-Some.field-0.verdict j.verdict in
    let good_with = allows c.in-Some.field-0.recording c.in-Some.field-0.verdict j.verdict in
    let told = c.is_violation.ensures in
    let of_recording = c.in_ok-outcome-in-Some.ensures in
    record {
      complete = j.complete;
      outcome = rw j.recording at of_recording;
      forbidden = λ bad. subst HasNoOrder j.recording (bad_without (sym told ∙ bad));
      allowed = λ good. subst (λ x. (m : List ℕ) × IsTsoOrder x m) j.recording (good_with (sym told ∙ good));
    }
