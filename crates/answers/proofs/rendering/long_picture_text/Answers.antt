use Rattle.std.proofs.Common.{ℕ, List, subst}
use Rattle.drawing.specs.Drawing.{IsDrawing}
use Rattle.answers.proofs.LongParts.{part_picture}
use Rattle.answers.proofs.rendering.long_picture_text.Goals as goal

pub returns-in_ok-text-in-Some : goal.returns-in_ok-text-in-Some
returns-in_ok-text-in-Some c =
    let x = c.args.recording.now in
    let names = c.args.names.now in
    let answer = c.args.answer.now in
    let y = c.in-Some.reduced.recording in
    let ks : List ℕ = c.in-Some.reduced.events.items in
    let left = c.in_ok-left-in-Some.left in
    let text : List ℕ = c.in_ok-text-in-Some.text.items in
    let reduction = rw c.in-Some.is at c.in_ok-reduced.ensures.reduction in
    let drawn = subst (λ (l : List ℕ). IsDrawing x names l y left text) c.deref.ensures.value
    c.in_ok-text-in-Some.ensures in
    part_picture x names answer ks y reduction left c.in_ok-left-in-Some.ensures text drawn
