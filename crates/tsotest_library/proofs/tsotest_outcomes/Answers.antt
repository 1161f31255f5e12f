use Rattle.std.proofs.Common.{◌≡◌, inl, inr, arith, refl}
use Rattle.verdicts.specs.declared.outcome.Outcome.TheVariants as outcome
use Rattle.tsotest_library.specs.Listed.{IsListedOf}
use Rattle.tsotest_library.proofs.Lists.{listed_outcome, put_as, put_most, put_none}
use Rattle.tsotest_library.proofs.Statuses.{put_by}
use Rattle.tsotest_library.proofs.tsotest_outcomes.Goals as goal

pub returns-clause-listed : goal.returns-clause-listed
returns-clause-listed c same =
    put_as outcome.Done (inl refl) (λ one. omega (arith, one)) (listed_outcome c.args.program.now c.args.states)
    (put_by (IsListedOf c.args.program.now c.args.states)
    c.listed_answer.result c.put_answer.result c.args.out.now c.put_answer.new.out c.put_answer.new.len
    c.listed_answer.ensures c.put_answer.ensures.given c.put_answer.ensures.written
    c.put_answer.ensures.error c.put_answer.ensures.nothing) same

pub returns-clause-refused : goal.returns-clause-refused
returns-clause-refused c same =
    put_as outcome.Refused (inr (inl refl)) (λ one. omega (arith, one)) (listed_outcome c.args.program.now c.args.states)
    (put_by (IsListedOf c.args.program.now c.args.states)
    c.listed_answer.result c.put_answer.result c.args.out.now c.put_answer.new.out c.put_answer.new.len
    c.listed_answer.ensures c.put_answer.ensures.given c.put_answer.ensures.written
    c.put_answer.ensures.error c.put_answer.ensures.nothing) same

pub returns-clause-unfinished : goal.returns-clause-unfinished
returns-clause-unfinished c same =
    put_as outcome.Unfinished (inr (inr refl)) (λ one. omega (arith, one)) (listed_outcome c.args.program.now c.args.states)
    (put_by (IsListedOf c.args.program.now c.args.states)
    c.listed_answer.result c.put_answer.result c.args.out.now c.put_answer.new.out c.put_answer.new.len
    c.listed_answer.ensures c.put_answer.ensures.given c.put_answer.ensures.written
    c.put_answer.ensures.error c.put_answer.ensures.nothing) same

pub returns-clause-status : goal.returns-clause-status
returns-clause-status c = (put_most (listed_outcome c.args.program.now c.args.states)
    (put_by (IsListedOf c.args.program.now c.args.states)
    c.listed_answer.result c.put_answer.result c.args.out.now c.put_answer.new.out c.put_answer.new.len
    c.listed_answer.ensures c.put_answer.ensures.given c.put_answer.ensures.written
    c.put_answer.ensures.error c.put_answer.ensures.nothing)).0

pub returns-clause-others : goal.returns-clause-others
returns-clause-others c = (put_most (listed_outcome c.args.program.now c.args.states)
    (put_by (IsListedOf c.args.program.now c.args.states)
    c.listed_answer.result c.put_answer.result c.args.out.now c.put_answer.new.out c.put_answer.new.len
    c.listed_answer.ensures c.put_answer.ensures.given c.put_answer.ensures.written
    c.put_answer.ensures.error c.put_answer.ensures.nothing)).1

pub returns-clause-no_memory : goal.returns-clause-no_memory
returns-clause-no_memory c one = put_none (listed_outcome c.args.program.now c.args.states)
    (put_by (IsListedOf c.args.program.now c.args.states)
    c.listed_answer.result c.put_answer.result c.args.out.now c.put_answer.new.out c.put_answer.new.len
    c.listed_answer.ensures c.put_answer.ensures.given c.put_answer.ensures.written
    c.put_answer.ensures.error c.put_answer.ensures.nothing) one
