use Rattle.std.proofs.Common.{arith, refl, sym, ap, subst, ◌∙◌, ◌≡◌, ◌+◌, ◌++◌, ◌∷◌, [], length, map, drop, ℕ, suc}
use Rattle.std.proofs.Common.{List, Option, Some, append_assoc, append-nil, length-append, drop-cons, Vec, Global}
use Rattle.std.proofs.lemmas.List.{map-append, drop_all}
use Rattle.std.proofs.lemmas.List.Sums.{sum_by_more, sum_by-take-le, get_or-le-sum_by}
use Rattle.std.proofs.lemmas.List.Elements.{All-pop}
use Rattle.recording.specs.declared.event.Event.{Event}
use Rattle.program.specs.declared.op.Op.{Op}
use Rattle.machine.specs.Configuration.{BoundedItems}
use Rattle.machine.specs.State.{events_from, cores_from}
use Rattle.machine.proofs.record.record_all.Goals as goal

-- an empty list with this room
abbrev Fresh : ℕ → BoundedItems Event → Type 0
Fresh n b = b ≡ record { items = []; room = n }

module _ (reads : List (ℕ × Option ℕ)) where
  -- one more core is recorded
  more : (lists : List (Vec Event Global)) (list : Vec Event Global) (first : ℕ) (ops : List Op)
      (rest : List (List Op)) (all : List (List Event))
      → list.items ≡ events_from first ops reads
      → map (λ (v : Vec Event Global). v.items) lists ++ cores_from first (ops ∷ rest) reads ≡ all
      → map (λ (v : Vec Event Global). v.items) (lists ++ list ∷ []) ++ cores_from
      (first + length ops) rest reads ≡ all
  more lists list first ops rest all is h =
      ap (λ (l : List (List Event)). l ++ cores_from (first + length ops) rest reads)
      (map-append (λ (v : Vec Event Global). v.items) lists (list ∷ []))
      ∙ (append_assoc (map (λ (v : Vec Event Global). v.items) lists) (list.items ∷ [])
      (cores_from (first + length ops) rest reads)
      ∙ (ap (λ (es : List Event). map (λ (v : Vec Event Global). v.items) lists ++ es ∷ cores_from
      (first + length ops) rest reads) is ∙ h))

pub record_core-requires-clause-room : goal.record_core-requires-clause-room
record_core-requires-clause-room c =
    let popped = All-pop (Fresh (length c.args.reads.now)) c.loop-ops.events.items c.pop.new.self.items
    (Some c.in-Some.list) c.in-Some.ensures.items c.loop-ops.invariant.fresh in
    omega (
      arith,
      ap (λ (b : BoundedItems Event). length b.items) popped.1,
      ap (λ (b : BoundedItems Event). b.room) popped.1,
      ap (λ (l : List Op). length l) c.as_slice.ensures,
      c.requires.fits,
      ap (λ (l : List Op). length l) c.ops-item.is,
      get_or-le-sum_by (λ (l : List Op). length l) c.args.program.now c.loop-ops.ops-index c.ops-item.result
          c.loop-ops-test.true,
    )

pub record_core-requires-clause-within : goal.record_core-requires-clause-within
record_core-requires-clause-within c =
    omega (
      arith,
      ap (λ (l : List Op). length l) c.as_slice.ensures,
      c.requires.fits,
      c.loop-ops.invariant.first,
      ap (λ (l : List Op). length l) c.ops-item.is,
      sum_by_more (λ (l : List Op). length l) c.args.program.now c.loop-ops.ops-index c.ops-item.result
          c.loop-ops-test.true,
      sum_by-take-le (λ (l : List Op). length l) c.args.program.now (c.loop-ops.ops-index + 1),
    )

pub loop-ops-preserved : goal.loop-ops-preserved
loop-ops-preserved c =
    let popped = All-pop (Fresh (length c.args.reads.now)) c.loop-ops.events.items c.pop.new.self.items
    (Some c.in-Some.list) c.in-Some.ensures.items c.loop-ops.invariant.fresh in
    let size : length c.as_slice-in-loop-ops.result.now ≡ length c.ops-item.result =
    ap (λ (l : List Op). length l) c.as_slice-in-loop-ops.ensures in
    let list : c.into_items.result.items ≡ events_from c.loop-ops.first c.ops-item.result c.args.reads.now =
    c.into_items.ensures ∙ (ap (λ (b : BoundedItems Event). b.items) c.record_core.ensures
    ∙ (ap (λ (b : BoundedItems Event). b.items ++ events_from c.loop-ops.first c.as_slice.result.now
    c.args.reads.now) popped.1
    ∙ ap (λ (l : List Op). events_from c.loop-ops.first l c.args.reads.now) c.as_slice.ensures)) in
    let next : suc c.loop-ops.ops-index ≡ c.loop-ops.ops-index + 1 = omega arith in
    let split : drop c.loop-ops.ops-index c.args.program.now ≡ c.ops-item.result ∷ drop
    (c.loop-ops.ops-index + 1) c.args.program.now =
    drop-cons c.args.program.now c.loop-ops.ops-index c.ops-item.result c.loop-ops-test.true
    ∙ (ap (λ (v : List Op). v ∷ drop (suc c.loop-ops.ops-index) c.args.program.now) (sym c.ops-item.is)
    ∙ ap (λ (n : ℕ). c.ops-item.result ∷ drop n c.args.program.now) next) in
    record {
      room = ap (λ (b : BoundedItems (Vec Event Global)). b.room) c.push.ensures ∙ c.loop-ops.invariant.room;
      made = rw (c.push.ensures, size)
          (more c.args.reads.now c.loop-ops.lists.items c.into_items.result c.loop-ops.first c.ops-item.result
          (drop (c.loop-ops.ops-index + 1) c.args.program.now) _ list
          (subst (λ (xs : List (List Op)). map (λ (v : Vec Event Global). v.items) c.loop-ops.lists.items
          ++ cores_from c.loop-ops.first xs c.args.reads.now
          ≡ cores_from 0 c.args.program.now c.args.reads.now) split c.loop-ops.invariant.made));
      size = omega (
        arith,
        ap (λ (b : BoundedItems (Vec Event Global)). length b.items) c.push.ensures,
        length-append c.loop-ops.lists.items (c.into_items.result ∷ []),
        c.loop-ops.invariant.size,
      );
      first = omega (
        arith,
        size,
        c.loop-ops.invariant.first,
        ap (λ (l : List Op). length l) c.ops-item.is,
        sum_by_more (λ (l : List Op). length l) c.args.program.now c.loop-ops.ops-index c.ops-item.result
            c.loop-ops-test.true,
      );
      left = omega (
        arith,
        c.loop-ops.invariant.left,
        ap (λ (l : List (BoundedItems Event)). length l)
            c.in-Some.ensures.items,
        length-append c.pop.new.self.items (c.in-Some.list ∷ []),
      );
      fresh = popped.0;
    }

pub loop-ops-init : goal.loop-ops-init
loop-ops-init c =
    record {
      room = refl;
      made = rw c.requires.empty refl;
      size = ap (λ (l : List (Vec Event Global)). length l) c.requires.empty;
      first = refl;
      left = omega (arith, c.requires.one_each);
      fresh = c.requires.fresh;
    }

pub push-requires : goal.push-requires
push-requires c =
    omega (
      arith,
      c.loop-ops.invariant.size,
      c.loop-ops.invariant.room,
      c.requires.room,
      c.loop-ops-test.true,
    )

pub returns : goal.returns
returns c =
    let lists = map (λ (v : Vec Event Global). v.items) c.loop-ops.lists.items in
    let made = subst (λ (xs : List (List Op)). lists ++ cores_from c.loop-ops.first xs c.args.reads.now
    ≡ cores_from 0 c.args.program.now c.args.reads.now)
    (drop_all c.loop-ops.ops-index c.args.program.now c.loop-ops-test.false) c.loop-ops.invariant.made in
    rw (c.into_items-2.ensures) (sym (append-nil lists) ∙ made)
