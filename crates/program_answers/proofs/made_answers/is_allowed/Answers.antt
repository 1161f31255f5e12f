use Rattle.program_answers.proofs.made_answers.is_allowed.Goals as goal

pub returns-in-Ordered : goal.returns-in-Ordered
returns-in-Ordered c =
    let verdict = rw c.in-Ordered.is at c.in_ok-judge_alone.ensures.verdict in (c.in-Ordered.field-0.items, verdict.order)

pub returns-in-Overlook : goal.returns-in-Overlook
returns-in-Overlook c = (rw c.in-Overlook.is at c.in_ok-judge_alone.ensures.verdict).no_order

pub returns : goal.returns
returns c = (rw c.in-Cycle.is at c.in_ok-judge_alone.ensures.verdict).no_order
