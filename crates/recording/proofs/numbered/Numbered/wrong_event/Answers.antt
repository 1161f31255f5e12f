use Rattle.std.proofs.Common.{◌≡◌, ◌∙◌, length, arith, inl, refl, ap}
use borrow.Author.Count.{below_more}
use Rattle.recording.specs.declared.event.Event.{Event}
use Rattle.recording.specs.declared.event.Event.TheVariants.{F}
use Rattle.recording.specs.Event.{read_address}
use Rattle.recording.specs.Execution.{Execution, event_count}
use Rattle.recording.specs.Listed.{HasListsOf}
use Rattle.recording.proofs.Walks.{core_of_vector, reached_event, reached_next, reached_core, reached_end}
use Rattle.recording.proofs.Refused.{lists_all, read_right, source_wrong, sources_all, value_wrong, values_all}
use Rattle.recording.proofs.numbered.Numbered.wrong_event.Goals as goal
use Rattle.recording.proofs.numbered.Numbered.wrong_event.Goals.{in-None, in-Some-Source, in-Some-Value}

pub loop-event-init : goal.loop-event-init
loop-event-init c =
    let was = c.loop-events.invariant in record {
      core = core_of_vector c.args.self.now c.parts.result.now c.cores-events-items.result.now
          c.loop-events.events-index c.events-item.result c.deref-event-items.result.now
          c.cores-events-items.ensures.value c.parts.ensures c.loop-events-test.true c.events-item.is
          c.deref-event-items.ensures.value;
      reached = was.reached;
      lists = was.lists;
      reads = was.reads;
    }

pub returns-then-not-has_lists_of : goal.returns-then-not-has_lists_of
returns-then-not-has_lists_of c size limits within =
    let stands = λ (d : Event). (reached_event c.args.self.now c.loop-events.events-index c.loop-event.event-index
    c.loop-event.number c.deref-event-items.result.now d c.loop-event.invariant.core c.loop-event-test.true
    c.loop-event.invariant.reached).1 in
    let has = (c.if-not-has_lists_of.ensures c.loop-event.number (stands _)).1
    (λ a uses. within.addresses c.loop-event.number a uses) in
    absurd cc

pub read_fault-requires : goal.read_fault-requires
read_fault-requires c a reads =
    let stands = (reached_event c.args.self.now c.loop-events.events-index c.loop-event.event-index
    c.loop-event.number c.deref-event-items.result.now _ c.loop-event.invariant.core c.loop-event-test.true
    c.loop-event.invariant.reached).1 in
    let below = (c.if-not-has_lists_of.ensures c.loop-event.number stands).0 refl a
    (inl (ap read_address stands ∙ reads)) in
    omega (arith, below, c.requires.addresses)

pub overflow_add-number : goal.overflow_add-number
overflow_add-number c =
    let found = reached_event c.args.self.now c.loop-events.events-index c.loop-event.event-index
    c.loop-event.number c.deref-event-items.result.now F c.loop-event.invariant.core c.loop-event-test.true
    c.loop-event.invariant.reached in
    omega (arith, c.requires, found.0)

pub loop-event-preserved : goal.loop-event-preserved
loop-event-preserved c =
    let x = c.args.self.now in
    let n = c.loop-event.number in
    let was = c.loop-event.invariant in
    let stands = λ (d : Event). (reached_event x c.loop-events.events-index c.loop-event.event-index n
    c.deref-event-items.result.now d was.core c.loop-event-test.true was.reached).1 in
    let next = reached_next x c.loop-events.events-index c.loop-event.event-index n c.deref-event-items.result.now
    was.core c.loop-event-test.true was.reached in
    let lists = below_more (HasListsOf x) n was.lists ((c.if-not-has_lists_of.ensures n (stands _)).0 refl) in
    elim c.match-read_fault.branch [
      | in-Some-Source w ↦ rw (w.source-is, w.value-is) (record {
        core = was.core;
        reached = next;
        lists = lists;
        reads = rw w.or-source.ensures
            (source_wrong x n c.loop-event.source c.loop-event.value
            (rw w.in-Some-Source.field-0-is at w.in-Some-Source.ensures n (stands _)) was.reads);
      })
      | in-Some-Value w ↦
          let wrong = rw w.in-Some-Value.field-0-is at w.in-Some-Value.ensures n (stands _) in
          rw (w.source-is, w.value-is) (record {
            core = was.core;
            reached = next;
            lists = lists;
            reads = rw w.or-value.ensures
                (value_wrong x n c.loop-event.source c.loop-event.value wrong.0 wrong.1 was.reads);
          })
      | in-None w ↦
          let right = rw w.in-None.is at c.read_fault.ensures n (stands _) in
          rw (w.source-is, w.value-is) (record {
            core = was.core;
            reached = next;
            lists = lists;
            reads = read_right x n c.loop-event.source c.loop-event.value right.0 right.1 was.reads;
          })
    ]

pub loop-events-preserved : goal.loop-events-preserved
loop-events-preserved c =
    let was = c.loop-event.invariant in record {
      reached = reached_core c.args.self.now c.loop-events.events-index c.loop-event.event-index
          c.loop-event.number c.deref-event-items.result.now was.core c.loop-event-test.false was.reached;
      lists = was.lists;
      reads = was.reads;
    }

pub returns-in-Some : goal.returns-in-Some
returns-in-Some c size limits =
    let cores : length c.cores-events-items.result.now ≡ length c.args.self.now.cores =
    c.cores-events-items.ensures.count ∙ ap (λ (x : Execution). length x.cores) c.parts.ensures in
    let all : c.loop-events.number ≡ event_count c.args.self.now =
    reached_end c.args.self.now c.loop-events.events-index c.loop-events.number
    (omega (arith, cores, c.loop-events-test.false)) c.loop-events.invariant.reached in (
      limits (lists_all c.args.self.now (λ e at. c.loop-events.invariant.lists e (omega (arith, at, all)))),
      rw c.in-Some.is at c.loop-events.invariant.reads,
    )

pub returns-in-Some-value : goal.returns-in-Some-value
returns-in-Some-value c size limits =
    let cores : length c.cores-events-items.result.now ≡ length c.args.self.now.cores =
    c.cores-events-items.ensures.count ∙ ap (λ (x : Execution). length x.cores) c.parts.ensures in
    let all : c.loop-events.number ≡ event_count c.args.self.now =
    reached_end c.args.self.now c.loop-events.events-index c.loop-events.number
    (omega (arith, cores, c.loop-events-test.false)) c.loop-events.invariant.reached in
    let reads = rw c.in_default.is at c.loop-events.invariant.reads in (
      limits (lists_all c.args.self.now (λ e at. c.loop-events.invariant.lists e (omega (arith, at, all)))),
      sources_all c.args.self.now (λ e at. reads.0 e (omega (arith, at, all))),
      rw c.in-Some-value.is at reads.1,
    )

pub returns-in-None-value : goal.returns-in-None-value
returns-in-None-value c =
    let cores : length c.cores-events-items.result.now ≡ length c.args.self.now.cores =
    c.cores-events-items.ensures.count ∙ ap (λ (x : Execution). length x.cores) c.parts.ensures in
    let all : c.loop-events.number ≡ event_count c.args.self.now =
    reached_end c.args.self.now c.loop-events.events-index c.loop-events.number
    (omega (arith, cores, c.loop-events-test.false)) c.loop-events.invariant.reached in
    let reads = rw c.in_default.is at c.loop-events.invariant.reads in record {
      lists = lists_all c.args.self.now (λ e at. c.loop-events.invariant.lists e (omega (arith, at, all)));
      sources = sources_all c.args.self.now (λ e at. reads.0 e (omega (arith, at, all)));
      values = values_all c.args.self.now (λ e at. (rw c.in-None-value.is at reads.1) e (omega (arith, at, all)));
    }
