use Rattle.std.proofs.Common.{◌≡◌, ◌≤◌, ◌+◌, ◌-◌, inl, inr, ℕ, List, length, arith, ap, subst}
use Rattle.std.proofs.lemmas.Bool.{cases_lt}
use Rattle.std.proofs.lemmas.List.{length-map}
use Rattle.recording.specs.declared.event.Event.{Event}
use Rattle.recording.specs.Execution.{event_count}
use Rattle.relations.specs.Indexed.{events_below}
use Rattle.relations.proofs.Indexing.{below_all, core_there, event_here, events_from}
use Rattle.long.specs.Linked.{HasPairsOf}
use Rattle.long.proofs.PairsOf.{pairs_kept, step_listed}
use Rattle.long.proofs.Listed.{times_none}
use Rattle.long.proofs.linking.link_all.Goals as goal

pub loop-core-init : goal.loop-core-init
loop-core-init c = record {
  start = omega arith;
  few = omega (arith, ap (λ (l : List (ℕ × ℕ)). length l) c.in_ok-linked.ensures);
  linked = λ d e some. absurd (omega (arith, some, times_none c.in_ok-linked.linked.list.items c.in_ok-linked.ensures d e));
  here = λ e none. absurd (omega (arith, none));
}

pub put_core-requires-clause-events : goal.put_core-requires-clause-events
put_core-requires-clause-events c =
    let x = c.args.recording.now in
    let core = c.loop-core.core in
    let there = core_there x c.cores-core-end.result.now core c.loop-core-test.true c.cores-core-end.ensures in
    let own = events_from x c.cores.result.now core c.loop-core.start c.index-cores-core.result c.deref.result.now
    c.cores.ensures there c.index-cores-core.is c.deref.ensures.value c.loop-core.invariant.start in
    own.0

pub put_core-requires-clause-core : goal.put_core-requires-clause-core
put_core-requires-clause-core c = λ i low.
    let x = c.args.recording.now in
    let core = c.loop-core.core in
    let there = core_there x c.cores-core-end.result.now core c.loop-core-test.true c.cores-core-end.ensures in
    (event_here x c.cores.result.now core c.index-cores-core.result c.cores.ensures there c.index-cores-core.is i
    (c.loop-core.start + i) (omega (arith, low, ap (λ (es : List Event). length es) c.deref.ensures.value))
    (ap (λ (n : ℕ). n + i) c.loop-core.invariant.start)).1

pub overflow_cast-start : goal.overflow_cast-start
overflow_cast-start c =
    let x = c.args.recording.now in
    let core = c.loop-core.core in
    let there = core_there x c.cores-core-end.result.now core c.loop-core-test.true c.cores-core-end.ensures in
    let own = events_from x c.cores.result.now core c.loop-core.start c.index-cores-core.result c.deref.result.now
    c.cores.ensures there c.index-cores-core.is c.deref.ensures.value c.loop-core.invariant.start in
    let few = own.0.within in
    grind (
      arith,
      few,
      c.sound.ensures.within.few_events,
      c.len-in-loop-core.ensures,
      c.index-cores-core.result.ok.0,
      ap (λ (es : List Event). length es) c.deref.ensures.value,
    )

pub overflow_add-start : goal.overflow_add-start
overflow_add-start c =
    let x = c.args.recording.now in
    let core = c.loop-core.core in
    let there = core_there x c.cores-core-end.result.now core c.loop-core-test.true c.cores-core-end.ensures in
    let own = events_from x c.cores.result.now core c.loop-core.start c.index-cores-core.result c.deref.result.now
    c.cores.ensures there c.index-cores-core.is c.deref.ensures.value c.loop-core.invariant.start in
    let few = own.0.within in
    grind (
      arith,
      few,
      c.sound.ensures.within.few_events,
      c.len-in-loop-core.ensures,
      c.index-cores-core.result.ok.0,
      ap (λ (es : List Event). length es) c.deref.ensures.value,
    )

pub loop-core-preserved : goal.loop-core-preserved
loop-core-preserved c =
    let x = c.args.recording.now in
    let core = c.loop-core.core in
    let there = core_there x c.cores-core-end.result.now core c.loop-core-test.true c.cores-core-end.ensures in
    let own = events_from x c.cores.result.now core c.loop-core.start c.index-cores-core.result c.deref.result.now
    c.cores.ensures there c.index-cores-core.is c.deref.ensures.value c.loop-core.invariant.start in
    let was = c.loop-core.invariant in
    let put = c.in_ok-put_core.ensures in
    let after : c.loop-core.start + length c.deref.result.now ≡ c.loop-core.start + c.len-in-loop-core.result = omega (
      arith,
      c.len-in-loop-core.ensures,
      c.index-cores-core.result.ok.0,
      ap (λ (es : List Event). length es) c.deref.ensures.value,
    ) in
    record {
      start = omega (arith, own.1, after);
      few = omega (arith, put.few, after);
      linked = put.linked;
      here = λ e low. elim (cases_lt e c.loop-core.start) [
        | inl before ↦ pairs_kept x e c.loop-core.linked c.put_core.new.self put.kept (was.here e before)
        | inr past ↦
            let number : c.loop-core.start + (e - c.loop-core.start) ≡ e = omega (arith, past) in
            subst (λ (k : ℕ). HasPairsOf x k c.put_core.new.self) number
            (put.here (e - c.loop-core.start) (omega (arith, past, low, after)))
      ];
    }

pub returns-clause-few : goal.returns-clause-few
returns-clause-few c =
    let x = c.args.recording.now in
    let past : length x.cores ≤ c.loop-core.core = omega (
      arith,
      c.loop-core-test.false,
      ap (λ (cs : List (List Event)). length cs) c.cores-core-end.ensures,
      length-map c.cores-core-end.result.now (λ w. w.items),
    ) in
    omega (arith, c.loop-core.invariant.few, c.loop-core.invariant.start, below_all x c.loop-core.core past)

pub returns-clause-enough : goal.returns-clause-enough
returns-clause-enough c =
    let x = c.args.recording.now in
    let past : length x.cores ≤ c.loop-core.core = omega (
      arith,
      c.loop-core-test.false,
      ap (λ (cs : List (List Event)). length cs) c.cores-core-end.ensures,
      length-map c.cores-core-end.result.now (λ w. w.items),
    ) in
    let all : events_below x c.loop-core.core ≡ event_count x = below_all x c.loop-core.core past in
    step_listed x c.sound.ensures.well_formed c.loop-core.linked
    (λ e low. c.loop-core.invariant.here e (omega (arith, low, all, c.loop-core.invariant.start)))
