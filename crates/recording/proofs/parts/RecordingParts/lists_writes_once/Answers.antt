use Rattle.std.proofs.Common.{◌≡◌, ◌<◌, ◌↔◌, inl, inr, ℕ, IsTrue, List, arith, refl, get_or, length, sym, subst, ap}
use Rattle.std.proofs.lemmas.Bool.{cases_Bool}
use Rattle.recording.specs.Execution.{Writes, write_list}
use Rattle.recording.specs.EventLaws.{Writes-event}
use Rattle.recording.specs.Listed.{is_marked, slot_at, IsPlaced}
use Rattle.recording.specs.Order.{times}
use Rattle.recording.specs.PlaceLaws.{times_at}
use Rattle.recording.proofs.WriteLists.{once_short, unmarked_written, written_unmarked, walk_more, walked_slots}
use Rattle.recording.proofs.WriteLists.{walked_twice, walked_once, walked_marked, walked_placed}
use Rattle.recording.proofs.parts.RecordingParts.lists_writes_once.Goals as goal

pub returns-then-list-slots-clause-once : goal.returns-then-list-slots-clause-once
returns-then-list-slots-clause-once c = (
  λ wrong. absurd cc,
  λ once. absurd (omega (
    arith,
    c.if-list-slots.true,
    c.requires.slots.count,
    once_short c.args.self.now c.args.address once,
    ap (λ (xs : List ℕ). length xs) c.write_list-list.ensures,
  )),
)

pub returns-then-not-is_unmet-clause-once : goal.returns-then-not-is_unmet-clause-once
returns-then-not-is_unmet-clause-once c =
    let x = c.args.self.now in
    let list = c.write_list-list.result.now in
    let item = get_or list c.loop-i.i 0 in
    let stands : 0 < times (write_list x c.args.address) item =
    subst (λ (xs : List ℕ). 0 < times xs item) c.write_list-list.ensures
    (times_at list c.loop-i.i c.loop-i-test.true) in
    let are = walked_slots x (λ e. Writes x e c.args.address) list c.args.slots.now c.loop-i.slots c.loop-i.i
    c.requires.slots c.loop-i.invariant in (
      λ wrong. absurd cc,
      λ all. elim (cases_Bool (is_marked c.loop-i.slots item)) [
        | inl twice ↦
            let once : times list item ≡ 1 = subst (λ (xs : List ℕ). times xs item ≡ 1)
            (sym c.write_list-list.ensures) (all item stands).1 in
            absurd (walked_twice (λ e. Writes x e c.args.address) list c.args.slots.now c.loop-i.slots c.loop-i.i
            c.loop-i.invariant c.loop-i-test.true (all item stands).0 twice once)
        | inr unmet ↦ c.if-not-is_unmet.ensures.1
            (unmarked_written x c.loop-i.slots are item c.args.address (omega (arith, c.requires.address))
            (all item stands).0 unmet)
      ],
    )

pub loop-i-preserved : goal.loop-i-preserved
loop-i-preserved c =
    let x = c.args.self.now in
    let list = c.write_list-list.result.now in
    let number = get_or list c.loop-i.i 0 in
    let are = walked_slots x (λ e. Writes x e c.args.address) list c.args.slots.now c.loop-i.slots c.loop-i.i
    c.requires.slots c.loop-i.invariant in
    let value = c.if-not-is_unmet.ensures.0 refl in
    let unmet = written_unmarked x c.loop-i.slots are number c.args.address value.0 value.1 in
    walk_more (λ e. Writes x e c.args.address) list c.args.slots.now c.loop-i.slots c.loop-i.i _ _ c.placed.ensures
    c.loop-i.invariant c.loop-i-test.true unmet.1
    (omega (arith, c.requires.slots.count, Writes-event x number c.args.address unmet.1))
    unmet.0 refl c.item_or.ensures

pub returns-clause-once : goal.returns-clause-once
returns-clause-once c =
    let list = c.write_list-list.result.now in
    let all = walked_once (λ e. Writes c.args.self.now e c.args.address) list c.args.slots.now c.loop-i.slots
    c.loop-i.i c.loop-i.invariant c.loop-i-test.false in (
      λ _. rw c.write_list-list.ensures at all,
      λ _. refl,
    )

pub returns-clause-marked : goal.returns-clause-marked
returns-clause-marked c _ e writes =
    let list = c.write_list-list.result.now in
    subst (λ (xs : List ℕ). IsTrue (is_marked c.loop-i.slots e) ↔ (0 < times xs e)) c.write_list-list.ensures
    (walked_marked (λ f. Writes c.args.self.now f c.args.address) list c.args.slots.now c.loop-i.slots
    c.loop-i.i c.loop-i.invariant (omega (arith, c.loop-i-test.false, c.loop-i.auto.i-end)) e writes)

pub returns-clause-placed : goal.returns-clause-placed
returns-clause-placed c _ =
    let list = c.write_list-list.result.now in
    subst (λ (xs : List ℕ). (e : ℕ) → 0 < times xs e → IsPlaced xs e (slot_at c.loop-i.slots e))
    c.write_list-list.ensures
    (walked_placed (λ f. Writes c.args.self.now f c.args.address) list c.args.slots.now c.loop-i.slots
    c.loop-i.i c.loop-i.invariant (omega (arith, c.loop-i-test.false, c.loop-i.auto.i-end)))
