use Rattle.histograms.proofs.OneHistogram.{one_histogram}
use Rattle.histograms.proofs.law.runs_have_one_histogram.Goals as goal

pub returns : goal.returns
returns c = one_histogram
