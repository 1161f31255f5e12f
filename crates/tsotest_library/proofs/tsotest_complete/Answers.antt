use Rattle.std.proofs.Common.{inl, inr, refl}
use Rattle.verdicts.specs.declared.outcome.Outcome.TheVariants as outcome
use Rattle.tsotest_library.specs.Completed.{IsCompletedOf}
use Rattle.tsotest_library.proofs.Completions.{completed_outcome, put_nothing, put_so, put_within}
use Rattle.tsotest_library.proofs.Statuses.{put_by}
use Rattle.tsotest_library.proofs.tsotest_complete.Goals as goal

pub returns-clause-completed : goal.returns-clause-completed
returns-clause-completed c same =
    put_so outcome.Ordered (inl refl) (completed_outcome c.args.values.now c.args.states)
    (put_by (IsCompletedOf c.args.values.now c.args.states)
    c.completed_answer.result c.put_answer.result c.args.out.now c.put_answer.new.out c.put_answer.new.len
    c.completed_answer.ensures c.put_answer.ensures.given c.put_answer.ensures.written
    c.put_answer.ensures.error c.put_answer.ensures.nothing) same

pub returns-clause-impossible : goal.returns-clause-impossible
returns-clause-impossible c same =
    put_so outcome.Violation (inr (inl refl)) (completed_outcome c.args.values.now c.args.states)
    (put_by (IsCompletedOf c.args.values.now c.args.states)
    c.completed_answer.result c.put_answer.result c.args.out.now c.put_answer.new.out c.put_answer.new.len
    c.completed_answer.ensures c.put_answer.ensures.given c.put_answer.ensures.written
    c.put_answer.ensures.error c.put_answer.ensures.nothing) same

pub returns-clause-refused : goal.returns-clause-refused
returns-clause-refused c same =
    put_so outcome.Refused (inr (inr (inl refl))) (completed_outcome c.args.values.now c.args.states)
    (put_by (IsCompletedOf c.args.values.now c.args.states)
    c.completed_answer.result c.put_answer.result c.args.out.now c.put_answer.new.out c.put_answer.new.len
    c.completed_answer.ensures c.put_answer.ensures.given c.put_answer.ensures.written
    c.put_answer.ensures.error c.put_answer.ensures.nothing) same

pub returns-clause-unfinished : goal.returns-clause-unfinished
returns-clause-unfinished c same =
    put_so outcome.Unfinished (inr (inr (inr refl))) (completed_outcome c.args.values.now c.args.states)
    (put_by (IsCompletedOf c.args.values.now c.args.states)
    c.completed_answer.result c.put_answer.result c.args.out.now c.put_answer.new.out c.put_answer.new.len
    c.completed_answer.ensures c.put_answer.ensures.given c.put_answer.ensures.written
    c.put_answer.ensures.error c.put_answer.ensures.nothing) same

pub returns-clause-status : goal.returns-clause-status
returns-clause-status c = put_within (completed_outcome c.args.values.now c.args.states)
    (put_by (IsCompletedOf c.args.values.now c.args.states)
    c.completed_answer.result c.put_answer.result c.args.out.now c.put_answer.new.out c.put_answer.new.len
    c.completed_answer.ensures c.put_answer.ensures.given c.put_answer.ensures.written
    c.put_answer.ensures.error c.put_answer.ensures.nothing)

pub returns-clause-no_memory : goal.returns-clause-no_memory
returns-clause-no_memory c one = put_nothing (completed_outcome c.args.values.now c.args.states)
    (put_by (IsCompletedOf c.args.values.now c.args.states)
    c.completed_answer.result c.put_answer.result c.args.out.now c.put_answer.new.out c.put_answer.new.len
    c.completed_answer.ensures c.put_answer.ensures.given c.put_answer.ensures.written
    c.put_answer.ensures.error c.put_answer.ensures.nothing) one
