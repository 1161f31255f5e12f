use Rattle.std.proofs.Common.{◌≡◌, drop}
use Rattle.serde_json.specs.View.{items_view}
use Rattle.recorder.specs.Reading.{each}
use Rattle.recorder.proofs.Each.{with_front}
use Rattle.values_text.proofs.shape.items_in.Given as goal

-- what was found, and what is left gives, is what all gives
abbrev pub invariant-loop-value : goal.invariant-loop-value
invariant-loop-value g l =
    with_front l.found.items (each g.T.Item.held (items_view (drop l.value-index l.list)))
    ≡ each g.T.Item.held (items_view l.list)
