use Rattle.std.proofs.Common.{◌∙◌, List, ℕ, ap, arith, length, refl}
use Rattle.surveys.specs.declared.error.SurveyError.TheVariants.{TooLong}
use Rattle.surveys.proofs.Long.{long_rest, read_of_more, read_of_none}
use Rattle.surveys.proofs.Shown.{read_on}
use Rattle.surveys.proofs.showing.read_rest.Goals as goal

pub filled-init : goal.filled-init
filled-init g c = record {
  read = read_of_none (g.R.Source.left c.args.source.now);
  reads = refl;
  empty = c.clear.ensures.items;
  size = refl;
}

pub filled-preserved : goal.filled-preserved
filled-preserved g c = record {
  read = read_of_more _ (g.R.Source.left c.filled.source) _ c.filled.counted c.filled.block.items
      c.fill.new.block.items c.filled.invariant.read c.filled.invariant.empty c.in_ok-fill.ensures.gathered
      c.in-Some.total (omega (arith, c.in-Some.ensures));
  reads = c.in_ok-fill.ensures.count ∙ c.filled.invariant.reads;
  empty = c.clear-in-filled.ensures.items;
  size = c.fill.ensures.kept ∙ c.filled.invariant.size;
}

pub filled-smaller : goal.filled-smaller
filled-smaller g c = omega (
  arith,
  ap (λ (bytes : List ℕ). length bytes) c.filled.invariant.empty,
  c.in_ok-fill.ensures.more c.if-branch.true,
  c.in-Some.ensures,
)

pub returns-clause-read : goal.returns-clause-read
returns-clause-read g c =
    read_on _ (g.R.Source.left c.filled.source) _ c.filled.block.items c.fill.new.block.items
    (c.filled.invariant.read.0, c.filled.invariant.read.1) c.in_ok-fill.ensures.gathered

pub returns-in_default-clause-long : goal.returns-in_default-clause-long
returns-in_default-clause-long g c =
    long_rest _ (g.R.Source.left c.filled.source) _ c.filled.counted c.filled.block.items c.fill.new.block.items
    c.filled.invariant.read c.filled.invariant.empty c.in_ok-fill.ensures.gathered TooLong
    (omega (arith, c.in_default.ensures))
