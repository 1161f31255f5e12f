use Rattle.std.proofs.Common.{◌≡◌, ◌∙◌, ap, sym, None, map, List}
use Rattle.program.specs.Parts.{use_ops}
use Rattle.recording.specs.declared.event.Event.{Event}
use Rattle.program_events.specs.NamedProgram.{op_of}
use Rattle.program_events.proofs.NamedProgram.{is_numbered_end, is_not_numbered}
use Rattle.program_events.proofs.numbered.is_numbered.Goals as goal

pub returns-in-None : goal.returns-in-None
returns-in-None c =
    let early : use_ops c.loop-events.used (map op_of c.events-item.result.items) ≡ None =
    ap (λ (l : List Event). use_ops c.loop-events.used (map op_of l)) (sym c.as_slice.ensures.value)
    ∙ sym c.in-None.ensures in (
      λ h. absurd cc,
      λ numbered. absurd (is_not_numbered c.args.recording.now c.cores-lists.result.now c.cores-lists.ensures
          c.sound.ensures c.loop-events.used c.loop-events.events-index c.loop-events.invariant
          c.events-item.result c.loop-events-test.true
          (rw (← c.events-item.is) early) numbered),
    )

pub returns : goal.returns
returns c = is_numbered_end c.args.recording.now c.cores-lists.result.now c.cores-lists.ensures
    c.sound.ensures c.loop-events.used c.loop-events.events-index c.loop-events.invariant
    c.loop-events-test.false c.addresses.result c.addresses.ensures
