use Rattle.std.proofs.Common.{◌∙◌}
use Rattle.serde_json.proofs.Views.{view-Array}
use Rattle.recorder.proofs.Again.{values_more, values_all, fits_more, fits_all}
use Rattle.recorder.proofs.values.list_value.Goals as goal

pub loop-item-preserved : goal.loop-item-preserved
loop-item-preserved g c =
    let l = c.loop-item in
    let xs = c.args.items.now in
    let item = c.item-item.result in
    record {
      values = values_more g.K.Kind.datum xs l.item-index item item l.values.items c.push.new.self.items
          c.in_ok-value.field-0 c.loop-item-test.true c.item-item.is l.invariant.values
          c.in_ok-value.ensures.value c.in_ok-push.ensures.items;
      fits = fits_more g.K.Kind.fits xs l.item-index item c.loop-item-test.true c.item-item.is l.invariant.fits
          c.in_ok-value.ensures.fits;
    }

pub returns-clause-value : goal.returns-clause-value
returns-clause-value g c = view-Array c.loop-item.values
    ∙ values_all g.K.Kind.datum c.args.items.now c.loop-item.item-index c.loop-item.values.items
    c.loop-item-test.false c.loop-item.invariant.values

pub returns-clause-fits : goal.returns-clause-fits
returns-clause-fits g c =
    fits_all g.K.Kind.fits c.args.items.now c.loop-item.item-index c.loop-item-test.false c.loop-item.invariant.fits
