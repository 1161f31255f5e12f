use Rattle.std.proofs.Common.{map}
use Rattle.ledger.proofs.Files.{AreAdded}
use Rattle.ledger.proofs.merged.merge_texts.Given as goal

abbrev pub invariant-loop-i : goal.invariant-loop-i
invariant-loop-i l = AreAdded l.kind l.sum (map (λ v. v.now) l.files) l.i
