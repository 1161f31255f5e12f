use Rattle.std.proofs.Common.{◌≡◌, ◌∙◌, ◌<◌, map, ap, get_or, length}
use Rattle.std.proofs.lemmas.List.{length-map}
use Rattle.serde_json.proofs.Views.{view-Array}
use Rattle.std.specs.List.{AllByRecursion}
use Rattle.recorder.specs.Text.{list_data}
use Rattle.recorder.proofs.Again.{values_more, values_all, fits_more, fits_all, item_seen}
use Rattle.recorder.proofs.values.lists_value.Goals as goal

pub loop-list-preserved : goal.loop-list-preserved
loop-list-preserved g c =
    let l = c.loop-list in
    let vs = c.args.lists.now in
    let item = c.list-item.result in
    let xs = map (λ v. v.items) vs in
    let at : l.list-index < length xs = rw length-map c.loop-list-test.true in
    let seen : item.items ≡ get_or xs l.list-index item.items =
    item_seen vs l.list-index item c.loop-list-test.true c.list-item.is in
    record {
      values = values_more
          (list_data g.K.Kind.datum) xs l.list-index item.items item.items l.values.items c.push.new.self.items
          c.in_ok-list_value.field-0 at seen l.invariant.values
          (c.in_ok-list_value.ensures.value ∙ ap (list_data g.K.Kind.datum) c.as_slice.ensures.value)
          c.in_ok-push.ensures.items;
      fits = fits_more (AllByRecursion g.K.Kind.fits) xs l.list-index item.items at seen l.invariant.fits
          (rw c.as_slice.ensures.value at c.in_ok-list_value.ensures.fits);
    }

pub returns-clause-value : goal.returns-clause-value
returns-clause-value g c = view-Array c.loop-list.values
    ∙ values_all (list_data g.K.Kind.datum) (map (λ v. v.items) c.args.lists.now) c.loop-list.list-index
    c.loop-list.values.items (rw length-map c.loop-list-test.false) c.loop-list.invariant.values

pub returns-clause-fits : goal.returns-clause-fits
returns-clause-fits g c =
    fits_all (AllByRecursion g.K.Kind.fits) (map (λ v. v.items) c.args.lists.now) c.loop-list.list-index
    (rw length-map c.loop-list-test.false) c.loop-list.invariant.fits
