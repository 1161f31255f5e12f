use Rattle.std.proofs.Common.{◌≡◌, ◌-◌, [], length, map}
use Rattle.program_answers.specs.Why.{cores_seen}
use Rattle.program_answers.proofs.why.cores_seen.Given as goal

abbrev pub invariant-loop-core : goal.invariant-loop-core
invariant-loop-core l = cores_seen l.program 0 (length l.program.cores) [] l.seen
    ≡ cores_seen l.program l.core (length l.program.cores - l.core) (map (λ v. v.items) l.cores.items) l.seen
