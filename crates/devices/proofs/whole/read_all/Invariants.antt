use Rattle.std.proofs.Common.{◌≡◌, ◌<◌, ◌-◌, ◌^◌, length}
use Rattle.std.specs.Vec.{vec_len}
use Rattle.std.specs.Io.KnownBytes.{Consumes}
use Rattle.devices.proofs.whole.read_all.Given as goal

abbrev pub invariant-chunks : goal.invariant-chunks
invariant-chunks g l =
    Consumes (g.R.Source.left l.fn.source) (g.R.Source.left l.source) l.bytes.items
    × (g.R.Source.read_failed l.source ≡ g.R.Source.read_failed l.fn.source) × (0 < vec_len l.chunk)

abbrev pub decreases-chunks : goal.decreases-chunks
decreases-chunks g l = 2 ^ 64 - length l.bytes.items
