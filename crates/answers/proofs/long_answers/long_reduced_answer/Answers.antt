use Rattle.std.proofs.Common.{ℕ, Some, List, ap, subst, ◌∙◌}
use Rattle.answers.specs.LongReduced.{IsPartAnswer}
use Rattle.answers.specs.Reduced.{heading}
use Rattle.answers.proofs.LongParts.{part_answer}
use Rattle.answers.proofs.long_answers.long_reduced_answer.Goals as goal

pub returns-in-Some : goal.returns-in-Some
returns-in-Some c =
    let x = c.args.recording.now in
    let labels = c.args.labels.now in
    let y = c.in-Some.reduced.recording in
    let ks : List ℕ = c.in-Some.reduced.events.items in
    let found = c.in_ok-judged.judged.answer in
    let answer = c.in_ok-answer-in-Some.answer in
    let reduction = rw c.in-Some.is at c.in_ok-reduced.ensures.reduction in
    let is = c.in_ok-judged.ensures.answer in
    let shown = subst (λ (t : List ℕ). IsPartAnswer y t answer)
    (c.in_ok-text-in-Some.ensures ∙ ap (heading (Some labels)) c.deref.ensures.value) c.in_ok-answer-in-Some.ensures in
    part_answer x labels found is ks y c.sound.ensures reduction answer shown
