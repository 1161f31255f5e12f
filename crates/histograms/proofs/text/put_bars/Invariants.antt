use Rattle.std.proofs.Common.{◌≡◌, ◌++◌, drop}
use Rattle.std.specs.List.{flat_map}
use Rattle.histograms.specs.Text.{bar_text}
use Rattle.histograms.proofs.text.put_bars.Given as goal

abbrev pub invariant-loop-i : goal.invariant-loop-i
invariant-loop-i l = l.out.items ++ flat_map (bar_text l.program l.mark) (drop l.i l.histogram.bars)
    ≡ l.fn.out.items ++ flat_map (bar_text l.program l.mark) l.histogram.bars
