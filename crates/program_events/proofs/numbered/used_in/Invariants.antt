use Rattle.std.proofs.Common.{◌≡◌, map, drop}
use Rattle.program.specs.Parts.{use_ops}
use Rattle.program_events.specs.NamedProgram.{op_of}
use Rattle.program_events.proofs.numbered.used_in.Given as goal

abbrev pub invariant-loop-event : goal.invariant-loop-event
invariant-loop-event l = use_ops l.used (map op_of (drop l.event-index l.events)) ≡ use_ops l.first
    (map op_of l.events)
