use Rattle.std.proofs.Common.{◌∙◌, List, ℕ, ap, arith, length, length-append, refl, subst, sym}
use Rattle.surveys.specs.declared.showing.Sought.{Sought}
use Rattle.surveys.specs.Shown.{IsReadBeforeLine, IsSought}
use Rattle.surveys.specs.declared.error.SurveyError.TheVariants.{TooLong}
use Rattle.surveys.specs.Surveys.{IsLongRead}
use Rattle.surveys.proofs.Long.{from_err, long_before, long_later}
use Rattle.surveys.proofs.Shown.{at_last, none_lost, not_there, not_yet, nowhere, there}
use Rattle.surveys.proofs.showing.line_from.Goals as goal

pub filled-init : goal.filled-init
filled-init g c =
    let left = g.R.Source.left c.args.source.now in
    let before = subst (λ (bytes : List ℕ). IsReadBeforeLine left left bytes c.args.number c.args.number 0)
    (sym c.new-block.ensures.items) (not_yet left c.args.number) in
    record { before = before; reads = refl; size = refl }

pub returns-in-Found-clause-read : goal.returns-in-Found-clause-read
returns-in-Found-clause-read g c =
    there _ (g.R.Source.left c.filled.source) (g.R.Source.left c.fill.new.source) c.args.number c.filled.left
    c.filled.counted c.filled.block.items c.fill.new.block.items c.filled.invariant.before
    c.in_ok-fill.ensures.gathered (g.R.Source.left c.read_rest.new.source) c.in_ok-read_rest-in-Found.ensures.read.0
    c.line_in_whole.new.block.items c.in_ok-sought.end c.in_ok-sought.sought _ c.in_ok-read_rest-in-Found.ensures.read.1
    c.in_ok-sought.ensures c.in-Found.is

pub filled-smaller : goal.filled-smaller
filled-smaller g c = omega (
  arith,
  none_lost _ (g.R.Source.left c.filled.source) _ c.args.number c.filled.left c.filled.counted
      c.filled.block.items c.fill.new.block.items c.filled.invariant.before c.in_ok-fill.ensures.gathered
      c.line_in_whole.new.block.items c.in_ok-sought.end c.in_ok-sought.sought c.in_ok-sought.ensures,
  c.in_ok-fill.ensures.more c.if-branch.true,
  c.in-Some.ensures,
)

pub filled-preserved : goal.filled-preserved
filled-preserved g c = record {
  before =
      not_there _ (g.R.Source.left c.filled.source) _ c.args.number c.filled.left c.filled.counted
      c.filled.block.items c.fill.new.block.items c.filled.invariant.before c.in_ok-fill.ensures.gathered
      c.line_in_whole.new.block.items c.in-Later.later c.in_ok-sought.end c.in-Some.total c.in_ok-sought.sought
      c.in_ok-sought.ensures c.in-Later.is (omega (arith, c.in-Some.ensures));
  reads = c.in_ok-fill.ensures.count ∙ c.filled.invariant.reads;
  size = c.fill.ensures.kept ∙ c.filled.invariant.size;
}

pub returns-in-Found-2-clause-read : goal.returns-in-Found-2-clause-read
returns-in-Found-2-clause-read g c =
    at_last _ (g.R.Source.left c.filled.source) _ c.args.number c.filled.left c.filled.counted
    c.filled.block.items c.fill.new.block.items c.filled.invariant.before c.in_ok-fill.ensures.gathered _
    (subst (λ (s : Sought). IsSought c.fill.new.block.items c.filled.left s) c.in-Found-2.is
    (subst (λ (bytes : List ℕ). IsSought bytes c.filled.left c.in_ok-line.field-0) c.deref.ensures.value
    c.in_ok-line.ensures))

pub returns-clause-read : goal.returns-clause-read
returns-clause-read g c =
    nowhere _ (g.R.Source.left c.filled.source) _ c.args.number c.filled.left c.filled.counted
    c.filled.block.items c.fill.new.block.items c.filled.invariant.before c.in_ok-fill.ensures.gathered
    c.in-Later-2.field-0
    (subst (λ (s : Sought). IsSought c.fill.new.block.items c.filled.left s) c.in-Later-2.is
    (subst (λ (bytes : List ℕ). IsSought bytes c.filled.left c.in_ok-line.field-0) c.deref.ensures.value
    c.in_ok-line.ensures))

pub returns-in_default-clause-long : goal.returns-in_default-clause-long
returns-in_default-clause-long g c =
    let first = c.in_ok-sought.ensures in
    long_before _ (g.R.Source.left c.filled.source) _ c.args.number c.filled.left c.filled.counted
    c.filled.block.items c.fill.new.block.items c.filled.invariant.before c.in_ok-fill.ensures.gathered TooLong
    c.in_ok-sought.end
    (omega (
      arith,
      first.size,
      ap (λ (l : List ℕ). length l) first.cut,
      length-append first.front
          c.line_in_whole.new.block.items,
    ))
    (omega (arith, c.in_default.ensures))

pub returns-in_err-read_rest-in-Found-clause-long : goal.returns-in_err-read_rest-in-Found-clause-long
returns-in_err-read_rest-in-Found-clause-long g c =
    let start = g.R.Source.left c.args.source.now in
    let end = g.R.Source.left c.read_rest.new.source in
    from_err _ c.in_err-read_rest-in-Found.field-0.0 (λ e. IsLongRead e start end)
    (long_later start (g.R.Source.left c.filled.source) (g.R.Source.left c.fill.new.source) c.args.number c.filled.left
    c.filled.counted c.filled.block.items c.fill.new.block.items c.filled.invariant.before c.in_ok-fill.ensures.gathered
    _ end c.in_err-read_rest-in-Found.ensures.long) c.from_residual-in_err-read_rest-in-Found.ensures.1
