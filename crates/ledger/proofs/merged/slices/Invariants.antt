use Rattle.std.proofs.Common.{◌≡◌, ◌++◌, drop, map}
use Rattle.ledger.proofs.merged.slices.Given as goal

abbrev pub invariant-loop-file : goal.invariant-loop-file
invariant-loop-file l = map (λ t. t.now) l.slices.items ++ map (λ v. v.items) (drop l.file-index l.files)
    ≡ map (λ v. v.items) l.files
