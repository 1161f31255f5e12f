use Rattle.std.proofs.Common.{◌≡◌, ◌<◌, ◌∷◌, [], ◌++◌, ℕ, List, get_or, length, arith, ap, sym, subst, ◌∙◌}
use Rattle.relations.specs.declared.indexed.IndexedEvent.{IndexedEvent}
use Rattle.relations.specs.Indexed.{IsIndexed}
use Rattle.long.proofs.Lists.{length_push, each_push}
use Rattle.long.proofs.placed_list.PlacedList.of.Goals as goal

pub event-requires : goal.event-requires
event-requires c = c.requires c.loop-i.i c.loop-i-test.true

pub loop-i-preserved : goal.loop-i-preserved
loop-i-preserved c =
    let x = c.args.places.now in
    let numbers = c.args.numbers.now in
    let es = c.loop-i.events.items in
    let e = c.event.result in
    let now : c.push.new.self.items ≡ es ++ e ∷ [] = c.in_ok-push.ensures.items in
    let number : e.number ≡ get_or numbers (length es) 0 =
    c.event.ensures.number ∙ ap (λ (k : ℕ). get_or numbers k 0) (sym c.loop-i.invariant.size) in
    record {
      size = omega (arith, ap (λ (v : List IndexedEvent). length v) now, length_push es e, c.loop-i.invariant.size);
      each = subst (λ (v : List IndexedEvent). (k : ℕ) (d : IndexedEvent) → k < length v
          → IsIndexed x (get_or v k d) × ((get_or v k d).number ≡ get_or numbers k 0)) (sym now)
          (λ k d low. each_push (λ j p. IsIndexed x p × (p.number ≡ get_or numbers j 0)) es e d
          (λ j before. c.loop-i.invariant.each j d before) (c.event.ensures.place, number) k low);
    }

pub invariant_of-result : goal.invariant_of-result
invariant_of-result c = record {
  size = omega (arith, c.loop-i.invariant.size, c.loop-i-test.false, c.loop-i.auto.i-end);
  each = c.loop-i.invariant.each;
}
