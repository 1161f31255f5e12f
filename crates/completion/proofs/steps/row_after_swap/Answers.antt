use Rattle.std.proofs.Common.{◌≡◌, ◌+◌, ◌∙◌, ℕ, arith, length, length-set, true, sym, ap}
use Rattle.completion.specs.Situation.{written}
use Rattle.situations.specs.Situation.{Situation, place_of, with_place}
use Rattle.completion.proofs.Moved.{modified_is}
use Rattle.completion.proofs.Shapes.{core_small}
use Rattle.completion.proofs.steps.row_after_swap.Goals as goal

pub go_on-requires : goal.go_on-requires
go_on-requires c = omega (
  arith,
  c.place-place.ensures.value,
  c.requires.there,
  core_small c.args.values.now c.requires.room c.args.core,
)

pub write-requires-clause-cores : goal.write-requires-clause-cores
write-requires-clause-cores c =
    ap (λ (z : Situation). length z.places) c.go_on.ensures
    ∙ (length-set c.in_ok-next.next.places c.args.core (c.place-place.result + 1)
    ∙ (ap (λ (z : Situation). length z.places) c.in_ok-next.ensures ∙ c.requires.cores))

pub write-requires-clause-there : goal.write-requires-clause-there
write-requires-clause-there c = omega (arith, c.place-place.ensures.value, c.requires.there)

pub returns : goal.returns
returns c =
    let test : c.may_modify.result ≡ true = cc in
    let before : c.go_on.new.self ≡ with_place c.args.row.now c.args.core (place_of c.args.row.now c.args.core + 1) =
    c.go_on.ensures ∙ (ap (λ (k : ℕ). with_place c.in_ok-next.next c.args.core (k + 1)) c.place-place.ensures.value
    ∙ ap (λ (z : Situation). with_place z c.args.core (place_of c.args.row.now c.args.core + 1)) c.in_ok-next.ensures) in
    let made : c.write.new.row ≡ written c.args.values.now c.go_on.new.self c.args.core
    (place_of c.args.row.now c.args.core) c.in-R.a c.in-R.w =
    c.write.ensures
    ∙ ap (λ (k : ℕ). written c.args.values.now c.go_on.new.self c.args.core k c.in-R.a c.in-R.w) c.place-place.ensures.value in
    modified_is c.args.values.now c.args.row.now c.go_on.new.self c.write.new.row c.args.core c.in-R.a c.in-R.r
    c.in-R.w c.in-R.s c.args.event c.in-R.is (sym c.may_modify.ensures ∙ test) before made
