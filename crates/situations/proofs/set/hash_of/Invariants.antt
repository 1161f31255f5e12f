use Rattle.std.proofs.Common.{◌≡◌, ◌*◌, drop}
use Rattle.situations.specs.Chains.{hash_from}
use Rattle.situations.proofs.set.hash_of.Given as goal

abbrev pub invariant-loop-i : goal.invariant-loop-i
invariant-loop-i l = hash_from l.hash (drop (2 * l.i) l.list) ≡ hash_from 0 l.list
