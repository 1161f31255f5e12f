use Rattle.std.proofs.Common.{◌≡◌, ◌++◌, ◌-◌, map}
use Rattle.std.specs.List.{range_with_len}
use Rattle.program_answers.specs.Why.{final_seen, finals_seen}
use Rattle.program_answers.proofs.why.finals_seen.Given as goal

abbrev pub invariant-loop-address : goal.invariant-loop-address
invariant-loop-address l =
    l.finals.items ++ map (final_seen l.seen) (range_with_len l.address (l.addresses - l.address))
    ≡ finals_seen l.addresses l.seen
