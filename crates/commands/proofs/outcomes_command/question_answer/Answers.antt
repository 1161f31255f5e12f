use Rattle.commands.proofs.outcomes_command.question_answer.Goals as goal

pub returns-in_ok-log_answer-in-Observed-clause-ok : goal.returns-in_ok-log_answer-in-Observed-clause-ok
returns-in_ok-log_answer-in-Observed-clause-ok g c = rw c.in-Observed.is (
  c.in_ok-lines-in-Observed.lines.items,
  rw c.as_str.ensures.value at c.in_ok-lines-in-Observed.ensures.ok,
  rw (c.deref.ensures.value, c.unseen_form.ensures) at c.in_ok-log_answer-in-Observed.ensures,
)
