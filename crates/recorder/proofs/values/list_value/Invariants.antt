use Rattle.std.proofs.Common.{◌≡◌, map, take}
use Rattle.serde_json.specs.View.{view}
use Rattle.std.specs.List.{AllByRecursion}
use Rattle.recorder.proofs.values.list_value.Given as goal

abbrev pub invariant-loop-item : goal.invariant-loop-item
invariant-loop-item g l = record {
  values : map view l.values.items ≡ map g.K.Kind.datum (take l.item-index l.items);
  fits : AllByRecursion g.K.Kind.fits (take l.item-index l.items);
}
