use Rattle.std.proofs.Common.{◌≡◌, take}
use Rattle.completion.specs.Part.{events_on}
use Rattle.completion.proofs.restricting.kept_events.Given as goal

abbrev pub invariant-loop-number : goal.invariant-loop-number
invariant-loop-number l = l.events.items ≡ events_on l.values (take l.number-index l.kept) l.core
