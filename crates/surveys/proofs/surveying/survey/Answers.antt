use Rattle.std.proofs.Common.{IfSome, length}
use Rattle.surveys.specs.declared.error.SurveyError.TheVariants.{OutOfMemory}
use Rattle.surveys.specs.Surveys.{IsLong}
use Rattle.surveys.proofs.Blocks.{all_known}
use Rattle.surveys.proofs.Long.{from_err, long_known, memory_known}
use Rattle.surveys.proofs.surveying.survey.Goals as goal

pub returns-clause-known : goal.returns-clause-known
returns-clause-known g c =
    all_known c.args.kind (g.R.Source.left c.args.source.now) (g.R.Source.left c.count_by_workers.new.source)
    c.count_by_workers.new.counted.ledger c.args.reports _ _ c.in_ok-count_by_workers.ensures.whole
    c.in_ok-count_by_workers.ensures.all

pub returns-in_err-count_by_workers-clause-long_known : goal.returns-in_err-count_by_workers-clause-long_known
returns-in_err-count_by_workers-clause-long_known g c = from_err _ c.in_err-count_by_workers.field-0.0
    (λ e. IfSome (g.R.Source.left c.args.source.now) (λ bytes. IsLong e (length bytes)))
    (long_known _ (g.R.Source.left c.args.source.now) (g.R.Source.left c.count_by_workers.new.source)
    c.in_err-count_by_workers.ensures.long) c.from_residual-in_err-count_by_workers.ensures.1

pub returns-in_err-queue-clause-long_known : goal.returns-in_err-queue-clause-long_known
returns-in_err-queue-clause-long_known g c = from_err _ OutOfMemory
    (λ e. IfSome (g.R.Source.left c.args.source.now) (λ bytes. IsLong e (length bytes)))
    (memory_known (g.R.Source.left c.args.source.now)) c.from_residual-in_err-queue.ensures.1
