use Rattle.std.proofs.Common.{◌≡◌, drop, map}
use Rattle.serde_json.specs.View.{items_view}
use Rattle.values_text.specs.Clipped.{clipped_known}
use Rattle.recorder.specs.Reading.{each, list_in}
use Rattle.recorder.proofs.Each.{with_front}
use Rattle.values_text.proofs.shape.cores_in.Given as goal

-- what was found, and what is left gives, is what all gives
abbrev pub invariant-loop-value : goal.invariant-loop-value
invariant-loop-value l =
    with_front (map (λ v. v.items) l.found.items)
    (each (list_in clipped_known) (items_view (drop l.value-index l.list)))
    ≡ each (list_in clipped_known) (items_view l.list)
