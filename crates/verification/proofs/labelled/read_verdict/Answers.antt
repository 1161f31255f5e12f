use Rattle.std.proofs.Common.{ℕ, subst, sym}
use Rattle.std.proofs.lemmas.Result.{IfOk-weaker}
use Rattle.long.specs.Answer.{without_labels}
use Rattle.verification.specs.Spelled.{HasRows, HasSizes, SpellsAnswer, labels_after}
use Rattle.verification.proofs.VerdictsSpelled.{verdict_spelled}
use Rattle.verification.proofs.labelled.read_verdict.Goals as goal

pub returns-in_default-clause-only : goal.returns-in_default-clause-only
returns-in_default-clause-only c v printed verified short =
    let s = verdict_spelled c.args.recording.now c.sound.ensures v c.args.text.now c.requires printed verified short in
    let read = c.in_ok-answer.ensures (without_labels v) (labels_after v)
    (subst (λ (n : ℕ). HasSizes n n (without_labels v)) (sym c.len-count.ensures) s.sizes)
    (subst (SpellsAnswer (without_labels v) (labels_after v)) (sym c.new-rest.ensures) s.spelled) in
    absurd (rw c.in_default.is at read.0)

pub returns-clause-only : goal.returns-clause-only
returns-clause-only c = IfOk-weaker c.with_labels.result _ _
    (λ r h v printed verified short.
    let s = verdict_spelled c.args.recording.now c.sound.ensures v c.args.text.now c.requires printed verified short in
    let read = c.in_ok-answer.ensures (without_labels v) (labels_after v)
    (subst (λ (n : ℕ). HasSizes n n (without_labels v)) (sym c.len-count.ensures) s.sizes)
    (subst (SpellsAnswer (without_labels v) (labels_after v)) (sym c.new-rest.ensures) s.spelled) in
    h v (rw c.in-Some.is at read.0) (subst (λ (n : ℕ). HasRows n v) (sym c.len-count.ensures) s.rows) read.1)
    c.with_labels.ensures.only
