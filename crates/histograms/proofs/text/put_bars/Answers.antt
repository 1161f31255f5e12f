use Rattle.std.proofs.Common.{◌≡◌, ◌+◌, ◌++◌, List, ℕ, drop, ap, ◌∙◌}
use Rattle.std.specs.List.{flat_map}
use Rattle.std.proofs.lemmas.List.{append_assoc}
use Rattle.histograms.specs.Text.{bar_text}
use Rattle.histograms.proofs.Counts.{from_index}
use Rattle.histograms.proofs.text.put_bars.Goals as goal

pub loop-i-preserved : goal.loop-i-preserved
loop-i-preserved c =
    let line : List ℕ = bar_text c.args.program.now c.args.mark (c.bar.result.0.now, c.bar.result.1.now) in
    let rest : List ℕ = flat_map (bar_text c.args.program.now c.args.mark) (drop (c.loop-i.i + 1) c.args.histogram.now.bars) in
    let at = from_index c.args.histogram.now.bars c.loop-i.i (c.bar.result.0.now, c.bar.result.1.now) c.bar.ensures in
    let kept = rw at at c.loop-i.invariant in
    let put : c.put_text.new.out.items ≡ c.loop-i.out.items ++ line =
    c.in_ok-put_text.ensures ∙ ap (λ t. c.loop-i.out.items ++ t) (c.deref.ensures.value ∙ c.in_ok-line.ensures) in
    ap (λ l. l ++ rest) put ∙ (append_assoc c.loop-i.out.items line rest ∙ kept)
