use Rattle.std.proofs.Common.{◌∙◌, sym, ap, option_map, map, Option, List, Vec, Global}
use Rattle.recorder.specs.Reading.{list_in}
use Rattle.recorder.proofs.Each.{front_start, front_more, front_none, front_all, vector_more}
use Rattle.recorder.proofs.reading.lists_in.Goals as goal

abbrev items_of : {A : Type 0} → List (Vec A Global) → List (List A)
items_of vs = map (λ v. v.items) vs

abbrev found_of : {A : Type 0} → Option (Vec A Global) → Option (List A)
found_of o = option_map (λ v. v.items) o

pub loop-value-init : goal.loop-value-init
loop-value-init g c =
    front_start (items_of c.new-found.result.items) _ (ap items_of c.new-found.ensures.items)

pub loop-value-preserved : goal.loop-value-preserved
loop-value-preserved g c =
    let vs = c.loop-value.found.items in
    let ws = c.push.new.self.items in
    let items = c.in-Some.items in
    front_more (list_in g.K.Kind.held) c.args.list.now c.loop-value.value-index c.value-item.result items.items
    (items_of vs) (items_of ws) c.loop-value-test.true c.value-item.is
    (sym c.in_ok-items.ensures ∙ ap found_of c.in-Some.is)
    (vector_more vs ws items c.in_ok-push.ensures.items) c.loop-value.invariant

pub returns-in_default : goal.returns-in_default
returns-in_default g c =
    front_none (list_in g.K.Kind.held) c.args.list.now c.loop-value.value-index c.value-item.result
    (items_of c.loop-value.found.items) c.loop-value-test.true c.value-item.is
    (sym c.in_ok-items.ensures ∙ ap found_of c.in_default.is) c.loop-value.invariant

pub returns : goal.returns
returns g c = front_all (list_in g.K.Kind.held) c.args.list.now c.loop-value.value-index
    (items_of c.loop-value.found.items) c.loop-value-test.false c.loop-value.invariant
