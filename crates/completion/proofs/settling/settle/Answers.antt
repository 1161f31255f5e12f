use Rattle.std.proofs.Common.{◌<◌, ◌≤◌, ◌+◌, arith, length, subst, sym}
use Rattle.situations.specs.Situation.{Situation}
use Rattle.completion.proofs.AllFree.{HaveSettled, all_settled, none_settled, one_settled}
use Rattle.completion.proofs.Shapes.{core_small}
use Rattle.completion.proofs.settling.settle.Goals as goal

pub loop-core-init : goal.loop-core-init
loop-core-init c = none_settled c.args.values.now c.args.row.now

pub go_on-requires : goal.go_on-requires
go_on-requires c = c.past_free-place.ensures.few (core_small c.args.values.now c.requires.room c.loop-core.core)

pub loop-core-preserved : goal.loop-core-preserved
loop-core-preserved c =
    let v = c.args.values.now in
    let k = c.loop-core.core in
    let inside : k < length c.args.row.now.places =
    omega (arith, c.loop-core-test.true, c.core_count-core-end.ensures, c.requires.cores) in
    subst (λ (z : Situation). HaveSettled v c.args.row.now z (k + 1)) (sym c.go_on.ensures)
    (one_settled v c.args.row.now c.loop-core.row k c.past_free-place.result inside c.loop-core.invariant
    c.past_free-place.ensures.value)

pub returns : goal.returns
returns c =
    let most : length c.args.values.now.cores ≤ c.loop-core.core =
    omega (arith, c.loop-core-test.false, c.core_count-core-end.ensures) in
    all_settled c.args.values.now c.args.row.now c.loop-core.row c.loop-core.core c.requires.cores most
    c.loop-core.invariant
