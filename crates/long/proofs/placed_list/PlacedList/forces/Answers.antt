use Rattle.std.proofs.Common.{◌≡◌, ◌<◌, ◌↔◌, ℕ, List, IsTrue, get_or, length, arith, ap, sym, subst}
use Rattle.relations.specs.declared.indexed.IndexedEvent.{IndexedEvent}
use Rattle.relations.specs.Filled.{TellsForced}
use Rattle.relations.specs.Forced.{Forced}
use Rattle.relations.specs.Indexed.{IsIndexed}
use Rattle.long.specs.PlacedEvents.{PlacedEvents, ArePlaced, placed_events}
use Rattle.long.proofs.placed_list.PlacedList.forces.Goals as goal

-- an event that was read at a place
read_at : (p : PlacedEvents) (es : List IndexedEvent) (i : ℕ) (e : IndexedEvent) → ArePlaced p es
    → i < length p.numbers → e ≡ get_or es i e → IsIndexed p.execution e × (e.number ≡ get_or p.numbers i 0)
read_at p es i e h low is =
    subst (λ (q : IndexedEvent). IsIndexed p.execution q × (q.number ≡ get_or p.numbers i 0)) (sym is)
    (h.each i e (omega (arith, low, h.size)))

pub index-requires : goal.index-requires
index-requires c = omega (
  arith,
  c.requires.first,
  c.self.inside.events.ok.0,
  c.self.invariant.size,
  ap (λ (p : PlacedEvents). length p.numbers) c.self.view_is,
)

pub index-requires-2 : goal.index-requires-2
index-requires-2 c = omega (
  arith,
  c.requires.second,
  c.self.inside.events.ok.0,
  c.self.invariant.size,
  ap (λ (p : PlacedEvents). length p.numbers) c.self.view_is,
)

pub returns : goal.returns
returns c =
    let x = c.self.inside.places.now in
    let numbers = c.self.inside.numbers.now in
    let es = c.self.inside.events.items in
    let p = c.index.result.now in
    let q = c.index-2.result.now in
    let size : length numbers ≡ length c.args.self.now.numbers =
    ap (λ (p : PlacedEvents). length p.numbers) c.self.view_is in
    let first = read_at (placed_events x numbers) es c.args.first p c.self.invariant
    (omega (arith, c.requires.first, size)) c.index.ensures in
    let second = read_at (placed_events x numbers) es c.args.second q c.self.invariant
    (omega (arith, c.requires.second, size)) c.index-2.ensures in
    let tells : TellsForced x p.number q.number c.is_forced_before.result =
    c.is_forced_before.ensures x first.0 second.0 in
    subst (λ (v : PlacedEvents). IsTrue c.is_forced_before.result ↔ Forced v.execution (get_or v.numbers c.args.first 0)
    (get_or v.numbers c.args.second 0)) c.self.view_is
    (subst (λ (n : ℕ). TellsForced x n (get_or numbers c.args.second 0) c.is_forced_before.result) first.1
    (subst (λ (n : ℕ). TellsForced x p.number n c.is_forced_before.result) second.1 tells))
