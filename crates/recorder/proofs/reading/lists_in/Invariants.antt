use Rattle.std.proofs.Common.{◌≡◌, drop, map}
use Rattle.serde_json.specs.View.{items_view}
use Rattle.recorder.specs.Reading.{each, list_in}
use Rattle.recorder.proofs.Each.{with_front}
use Rattle.recorder.proofs.reading.lists_in.Given as goal

-- what was found, and what is left gives, is what all gives
abbrev pub invariant-loop-value : goal.invariant-loop-value
invariant-loop-value g l =
    with_front (map (λ v. v.items) l.found.items)
    (each (list_in g.K.Kind.held) (items_view (drop l.value-index l.list)))
    ≡ each (list_in g.K.Kind.held) (items_view l.list)
