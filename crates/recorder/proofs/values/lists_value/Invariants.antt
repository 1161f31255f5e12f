use Rattle.std.proofs.Common.{◌≡◌, map, take}
use Rattle.std.specs.List.{AllByRecursion}
use Rattle.serde_json.specs.View.{view}
use Rattle.recorder.specs.Text.{list_data}
use Rattle.recorder.proofs.values.lists_value.Given as goal

abbrev pub invariant-loop-list : goal.invariant-loop-list
invariant-loop-list g l = record {
  values : map view l.values.items
      ≡ map (list_data g.K.Kind.datum) (take l.list-index (map (λ v. v.items) l.lists));
  fits : AllByRecursion (AllByRecursion g.K.Kind.fits) (take l.list-index (map (λ v. v.items) l.lists));
}
