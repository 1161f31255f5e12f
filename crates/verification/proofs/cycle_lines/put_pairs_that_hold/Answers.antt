use Rattle.std.proofs.Common.{◌≡◌, ◌∙◌, ◌+◌, ◌∷◌, [], refl, sym, arith}
use Rattle.verification.proofs.PairsHeld.{finish, go_on, none_held, pair_is, start, stop}
use Rattle.verification.proofs.Spelling.{some_is}
use Rattle.verification.proofs.cycle_lines.put_pairs_that_hold.Goals as goal
use Rattle.verification.proofs.cycle_lines.put_pairs_that_hold.Goals.{else-i-size-via-then-i-size+else-next-first}
use Rattle.verification.proofs.cycle_lines.put_pairs_that_hold.Goals.{else-i-size-via-else-i-size}

pub returns-in_default : goal.returns-in_default
returns-in_default c = none_held c.args.places.now c.requires c.args.size c.args.rest.now c.args.out.now.items
    c.args.rest.now (λ e back small is. c.in_default.not-Some e (c.next_number.ensures (10 ∷ []) e 32 back refl small
    refl (c.new-ahead.ensures ∙ c.rest.ensures ∙ is)).0)

pub loop-i-init : goal.loop-i-init
loop-i-init c = start c.args.places.now c.requires c.args.size c.in-Some.first c.args.rest.now c.args.out.now.items
    (λ e back small is. some_is c.in-Some.first e (sym c.in-Some.is ∙ (c.next_number.ensures (10 ∷ []) e 32 back refl
    small refl (c.new-ahead.ensures ∙ c.rest.ensures ∙ is)).0))

pub returns-in_default-next_pair : goal.returns-in_default-next_pair
returns-in_default-next_pair c = stop c.args.places.now c.args.size c.in-Some.first c.loop-i.last c.loop-i.i
    c.args.rest.now c.args.out.now.items c.loop-i.out.items c.loop-i.rest c.next_pair.new.rest c.loop-i-test.true
    c.loop-i.invariant (λ a. c.in_default-next_pair.not-Some (a.next, a.reason)
    (c.next_pair.ensures.only a.gap a.more a.next a.reason a.none a.holds a.stands).0)

pub returns-then-next-first : goal.returns-then-next-first
returns-then-next-first c = stop c.args.places.now c.args.size c.in-Some.first c.loop-i.last c.loop-i.i
    c.args.rest.now c.args.out.now.items c.loop-i.out.items c.loop-i.rest c.next_pair.new.rest c.loop-i-test.true
    c.loop-i.invariant (λ a. let read = c.next_pair.ensures.only a.gap a.more a.next a.reason a.none a.holds a.stands in
    let same = pair_is (c.in-Some-next_pair.next, c.in-Some-next_pair.reason) (a.next, a.reason)
    (sym c.in-Some-next_pair.is ∙ read.0) in
    c.if-next-first.true (same.0 ∙ a.closes c.if-i-size.true))

pub loop-i-preserved : goal.loop-i-preserved
loop-i-preserved c = go_on c.args.places.now c.args.size c.in-Some.first c.loop-i.last c.loop-i.i
    c.in-Some-next_pair.next c.in-Some-next_pair.reason c.args.rest.now c.args.out.now.items c.loop-i.out.items
    c.put_reason.new.out.items c.loop-i.rest c.next_pair.new.rest c.loop-i.invariant c.in-Some-next_pair.ensures.found
    closes c.in_ok-put_reason.ensures
    (λ gap later f r none holds stands. let read = c.next_pair.ensures.only gap later f r none holds stands in
    let same = pair_is (c.in-Some-next_pair.next, c.in-Some-next_pair.reason) (f, r)
    (sym c.in-Some-next_pair.is ∙ read.0) in (same.0, same.1, read.1))
  where
    closes : c.loop-i.i + 1 ≡ c.args.size → c.in-Some-next_pair.next ≡ c.in-Some.first
    closes last = elim c.else-i-size.branch [
      | else-i-size-via-then-i-size+else-next-first w ↦ w.if-next-first.false
      | else-i-size-via-else-i-size w ↦ absurd (w.if-i-size.false last)
    ]

pub returns : goal.returns
returns c = finish c.args.places.now c.args.size c.in-Some.first c.loop-i.last c.loop-i.i
    c.args.rest.now c.args.out.now.items c.loop-i.out.items c.loop-i.rest
    (omega (arith, c.loop-i-test.false, c.loop-i.auto.i-end)) c.loop-i.invariant
