use Rattle.std.proofs.Common.{List, ℕ, subst}
use Rattle.cycles.specs.Made.{IsMade, IsRefusal}
use Rattle.commands.proofs.make_command.make_command.Goals as goal

pub returns-in_ok-made_answer-in-Ok-clause-ok : goal.returns-in_ok-made_answer-in-Ok-clause-ok
returns-in_ok-made_answer-in-Ok-clause-ok c =
    let made = rw c.in-Ok.is at c.in_ok-made-in-Cycle.ensures in
    let words = subst (λ (t : List ℕ). IsMade t c.in-Ok.made) c.as_bytes.ensures.value made in
    rw c.in-Cycle.is (c.in-Ok.made, words, c.in_ok-made_answer-in-Ok.ensures)

pub returns-in_ok-cycle_refusal-in-Err-clause-err : goal.returns-in_ok-cycle_refusal-in-Err-clause-err
returns-in_ok-cycle_refusal-in-Err-clause-err c =
    let refused = rw c.in-Err.is at c.in_ok-made-in-Cycle.ensures in
    let words = subst (λ (t : List ℕ). IsRefusal t c.in-Err.refusal) c.as_bytes.ensures.value refused in
    rw c.in-Cycle.is (c.in-Err.refusal, words, c.in_ok-cycle_refusal-in-Err.ensures)
