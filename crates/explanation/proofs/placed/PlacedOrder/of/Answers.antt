use Rattle.std.proofs.Common.{◌≡◌, ◌≢◌, ◌<◌, ◌+◌, ◌-◌, ◌∙◌, inl, inr, ℕ, List, arith, ap, drop, get_or, length}
use Rattle.std.proofs.Common.{replicate, subst, sym}
use Rattle.std.proofs.lemmas.Bool.{cases_eq}
use Rattle.std.proofs.lemmas.List.{drop_all, drop_more, get_or-replicate, length-replicate, with_items_is}
use Rattle.recording.specs.Order.{place}
use Rattle.recording.specs.OrderLaws.{place_here, place_nil, place_there}
use Rattle.explanation.proofs.placed.PlacedOrder.of.Goals as goal

-- the place of an event from a place on, where it stands there
here : (order : List ℕ) (at e : ℕ) → at < length order → get_or order at 0 ≡ e → place (drop at order) e ≡ 0
here order at e h is = ap (λ (l : List ℕ). place l e) (drop_more order at 0 h)
    ∙ place_here (drop (at + 1) order) (get_or order at 0) e is

-- and where another does
there : (order : List ℕ) (at e : ℕ) → at < length order → get_or order at 0 ≢ e
    → place (drop at order) e ≡ place (drop (at + 1) order) e + 1
there order at e h other = ap (λ (l : List ℕ). place l e) (drop_more order at 0 h)
    ∙ place_there (drop (at + 1) order) (get_or order at 0) e other

pub loop-i-init : goal.loop-i-init
loop-i-init c e low =
    let order = c.args.order.now in
    let n : ℕ = length order in
    let items : c.in_ok-places.places.items ≡ replicate c.args.count n =
    c.in_ok-places.ensures.items_if_clones_equal (λ y h. h) in
    let size : length c.in_ok-places.places.items ≡ c.args.count =
    ap (λ (l : List ℕ). length l) items ∙ length-replicate c.args.count n in
    let value : get_or c.in_ok-places.places.items e 0 ≡ n =
    ap (λ (l : List ℕ). get_or l e 0) items ∙ get_or-replicate c.args.count e n 0 (omega (arith, low, size)) in
    let none : place (drop (n - 0) order) e ≡ 0 =
    ap (λ (l : List ℕ). place l e) (drop_all (n - 0) order (omega arith)) ∙ place_nil e in
    omega (arith, value, none)

pub loop-i-preserved : goal.loop-i-preserved
loop-i-preserved c e low =
    let order = c.args.order.now in
    let n : ℕ = length order in
    let i = c.loop-i.i in
    let at : ℕ = n - (i + 1) in
    let new = c.put_place.new.places in
    let old = c.loop-i.places.items in
    let size : length new ≡ length old = c.put_place.ensures.size ∙ ap (λ (l : List ℕ). length l) c.deref_mut.ensures.value in
    let items = with_items_is c.loop-i.places new (omega (arith, size, c.loop-i.places.ok.0)) in
    let within : at < n = omega (arith, c.loop-i-test.true) in
    let is_at : n - 1 - i ≡ at = omega arith in
    let next : n - i ≡ at + 1 = omega (arith, c.loop-i-test.true) in
    let event : ℕ = get_or order (n - 1 - i) 0 in
    let low_new : e < length new = omega (arith, low, ap (λ (l : List ℕ). length l) items) in
    let value : get_or new e 0 ≡ at + place (drop at order) e = elim (cases_eq event e) [
      | inl same ↦
          let set : get_or new event 0 ≡ n - 1 - i = c.put_place.ensures.here (omega (
            arith,
            same,
            low_new,
            c.put_place.ensures.size,
          )) in
          let none : place (drop at order) e ≡ 0 =
          here order at e within (subst (λ (k : ℕ). get_or order k 0 ≡ e) is_at same) in
          ap (λ (k : ℕ). get_or new k 0) (sym same) ∙ (set ∙ omega (arith, is_at, none))
      | inr other ↦
          let kept : get_or new e 0 ≡ get_or old e 0 = c.put_place.ensures.others e (λ q. other (sym q))
          ∙ ap (λ (l : List ℕ). get_or l e 0) c.deref_mut.ensures.value in
          let before = c.loop-i.invariant e (omega (arith, low_new, size)) in
          let more = there order at e within
          (λ q. other (ap (λ (k : ℕ). get_or order k 0) is_at ∙ q)) in
          let rest : place (drop (n - i) order) e ≡ place (drop (at + 1) order) e =
          ap (λ (k : ℕ). place (drop k order) e) next in
          kept ∙ omega (arith, before, more, next, rest)
    ] in
    ap (λ (l : List ℕ). get_or l e 0) items ∙ value

pub invariant_of-result : goal.invariant_of-result
invariant_of-result c e low =
    let order = c.args.order.now in
    let n : ℕ = length order in
    let all : n - c.loop-i.i ≡ 0 = omega (arith, c.loop-i-test.false) in
    let whole : place (drop (n - c.loop-i.i) order) e ≡ place order e = ap (λ (k : ℕ). place (drop k order) e) all in
    omega (arith, c.loop-i.invariant e low, all, whole)
