use Rattle.std.proofs.Common.{◌≡◌, map, drop}
use Rattle.program.specs.Parts.{use_cores}
use Rattle.program_events.specs.NamedProgram.{op_of}
use Rattle.program_events.proofs.numbered.is_numbered.Given as goal

abbrev pub invariant-loop-events : goal.invariant-loop-events
invariant-loop-events l = use_cores l.used (map (λ v. map op_of v.items) (drop l.events-index l.lists))
    ≡ use_cores 0 (map (λ v. map op_of v.items) l.lists)
