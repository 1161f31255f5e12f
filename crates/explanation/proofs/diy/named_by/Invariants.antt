use Rattle.std.proofs.Common.{◌≡◌, drop, map}
use Rattle.explanation.specs.Diy.{named_by}
use Rattle.explanation.proofs.diy.named_by.Given as goal

abbrev pub invariant-loop-row : goal.invariant-loop-row
invariant-loop-row l = named_by (map (λ r. (r.0.now, r.1.now)) (drop l.row-index l.rows)) l.words
    ≡ named_by (map (λ r. (r.0.now, r.1.now)) l.rows) l.words
