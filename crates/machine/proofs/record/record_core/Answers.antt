use Rattle.std.proofs.Common.{◌≡◌, ◌<◌, ◌+◌, ◌++◌, ◌∷◌, [], ℕ, List, Option, None, length, drop, get_or}
use Rattle.std.proofs.Common.{slice_index_or, arith, refl, sym, ap, subst, ◌∙◌, append_assoc, append-nil}
use Rattle.std.proofs.Common.{length-append, drop-cons, add-one}
use Rattle.std.proofs.lemmas.List.{drop_all}
use Rattle.program.specs.declared.op.Op.{Op}
use Rattle.recording.specs.declared.event.Event.{Event}
use Rattle.machine.specs.Configuration.{BoundedItems}
use Rattle.program_events.specs.ProgramOf.{event_of}
use Rattle.machine.specs.State.{events_from}
use Rattle.machine.proofs.record.record_core.Goals as goal

-- a list with its room
abbrev bounded : List Event → ℕ → BoundedItems Event
bounded items room = record { items = items; room = room }

-- one more event is recorded
more : (reads : List (ℕ × Option ℕ)) (done : List Event) (first i : ℕ) (ops : List Op) (all : List Event)
    (d : Op) → i < length ops → done ++ events_from (first + i) (drop i ops) reads ≡ all
    → (done ++ event_of (get_or ops i d) (slice_index_or reads (first + i) (0, None)) ∷ [])
    ++ events_from (first + (i + 1)) (drop (i + 1) ops) reads ≡ all
more reads done first i ops all d within h =
    let event = event_of (get_or ops i d) (slice_index_or reads (first + i) (0, None)) in
    let next : first + (i + 1) ≡ first + i + 1 = omega arith in
    let step : event ∷ events_from (first + (i + 1)) (drop (i + 1) ops) reads
    ≡ events_from (first + i) (drop i ops) reads = rw (next, drop-cons ops i d within, add-one i) refl in
    append_assoc done (event ∷ []) (events_from (first + (i + 1)) (drop (i + 1) ops) reads)
    ∙ (ap (λ (es : List Event). done ++ es) step ∙ h)

pub loop-i-init : goal.loop-i-init
loop-i-init c =
    record {
      room = refl;
      items =
          ap (λ (n : ℕ). c.args.events.now.items ++ events_from n c.args.ops.now c.args.reads.now)
          (let same : c.args.first + 0 ≡ c.args.first = omega arith in same);
      size = omega arith;
    }

pub loop-i-preserved : goal.loop-i-preserved
loop-i-preserved c =
    let rest = events_from (c.args.first + (c.loop-i.i + 1)) (drop (c.loop-i.i + 1) c.args.ops.now)
    c.args.reads.now in
    record {
      room = ap (λ (b : BoundedItems Event). b.room) c.push.ensures ∙ c.loop-i.invariant.room;
      items =
          ap (λ (b : BoundedItems Event). b.items ++ rest) c.push.ensures
          ∙ (ap (λ (e : Event). (c.loop-i.events.items ++ e ∷ []) ++ rest) c.event_of.ensures
          ∙ more c.args.reads.now c.loop-i.events.items c.args.first c.loop-i.i c.args.ops.now _ _
          c.loop-i-test.true c.loop-i.invariant.items);
      size = omega (
        arith,
        ap (λ (b : BoundedItems Event). length b.items) c.push.ensures,
        length-append c.loop-i.events.items (c.event_of.result ∷ []),
        c.loop-i.invariant.size,
      );
    }

pub returns : goal.returns
returns c =
    let whole = c.args.events.now.items ++ events_from c.args.first c.args.ops.now c.args.reads.now in
    let items : c.loop-i.events.items ≡ whole = sym (append-nil c.loop-i.events.items)
    ∙ subst (λ (ops : List Op). c.loop-i.events.items
    ++ events_from (c.args.first + c.loop-i.i) ops c.args.reads.now ≡ whole)
    (drop_all c.loop-i.i c.args.ops.now c.loop-i-test.false) c.loop-i.invariant.items in
    ap (λ (es : List Event). bounded es c.loop-i.events.room) items
    ∙ ap (λ (n : ℕ). bounded whole n) c.loop-i.invariant.room
