use Rattle.std.proofs.Common.{◌≡◌, ◌∙◌, ◌++◌, [], map, drop, ap, sym, List, Vec, Global, append-nil, drop_of_length-le}
use Rattle.program.specs.declared.op.Op.{Op}
use Rattle.recording.specs.declared.event.Event.{Event}
use Rattle.program_events.specs.NamedProgram.{op_of}
use Rattle.std.proofs.lemmas.Simd.{map-map}
use Rattle.program_events.proofs.operations.cores_of.Goals as goal

pub returns-clause-cores : goal.returns-clause-cores
returns-clause-cores c =
    let made : List (List Op) = c.loop-events.cores.items in
    let lists : List (Vec Event Global) = c.cores-lists.result.now in
    let none : drop c.loop-events.events-index lists ≡ [] =
    drop_of_length-le lists c.loop-events-test.false in
    sym (append-nil made) ∙ (ap (λ (l : List (Vec Event Global)). made ++ map
    (λ (v : Vec Event Global). map op_of v.items) l) (sym none)
    ∙ (c.loop-events.invariant.cores
    ∙ (sym (map-map (λ (es : List Event). map op_of es) (λ (v : Vec Event Global). v.items) lists)
    ∙ ap (λ (cs : List (List Event)). map (λ es. map op_of es) cs) c.cores-lists.ensures)))
