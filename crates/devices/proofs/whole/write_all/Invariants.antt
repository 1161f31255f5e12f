use Rattle.std.proofs.Common.{◌≡◌, ◌≤◌, ◌-◌, length, take}
use Rattle.std.specs.Io.KnownBytes.{Appends}
use Rattle.devices.proofs.whole.write_all.Given as goal

abbrev pub invariant-parts : goal.invariant-parts
invariant-parts g l =
    Appends (g.W.Sink.written l.initial.sink) (g.W.Sink.written l.sink) (take l.at l.text)
    × (g.W.Sink.write_failed l.sink ≡ g.W.Sink.write_failed l.initial.sink)
    × (l.at ≤ length l.text)

abbrev pub decreases-parts : goal.decreases-parts
decreases-parts g l = length l.text - l.at
