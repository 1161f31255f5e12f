use Rattle.std.proofs.Common.{◌∙◌, List, map, sym, ap}
use Rattle.recording.specs.declared.event.Event.{Event}
use Rattle.values.specs.Values.{unsourced}
use Rattle.values.proofs.Unsourced.{stripped_twice}
use Rattle.values.proofs.values.Values.new.Goals as goal

pub invariant_of-result : goal.invariant_of-result
invariant_of-result c =
    ap (λ (l : List (List Event)). map (map unsourced) l) c.in_ok-cores.ensures
    ∙ (stripped_twice (map (λ v. v.items) c.args.cores.now) ∙ sym c.in_ok-cores.ensures)
