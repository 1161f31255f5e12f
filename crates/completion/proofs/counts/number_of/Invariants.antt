use Rattle.std.proofs.Common.{◌≡◌, ◌-◌, ◌^◌, List, map, min, take, length}
use Rattle.std.specs.List.{sum}
use Rattle.recording.specs.declared.event.Event.{Event}
use Rattle.completion.proofs.counts.number_of.Given as goal

abbrev pub invariant-loop-c : goal.invariant-loop-c
invariant-loop-c l = l.first ≡ min (sum (take l.c (map (λ (es : List Event). length es) l.values.cores))) (2 ^ 64 - 1)
