use Rattle.std.proofs.Common.{◌≡◌, ◌≤◌, ◌+◌, ◌∷◌, [], ℕ, List, length, length-append, get_or, arith, ap, sym, subst}
use Rattle.relations.specs.Indexed.{events_below}
use Rattle.relations.proofs.Indexing.{below_more, core_from, core_here, core_there, starts_more}
use Rattle.relations.proofs.places.core_starts.Goals as goal

pub overflow_cast-start : goal.overflow_cast-start
overflow_cast-start c =
    let x = c.args.recording.now in
    let core = c.loop-core.core in
    let own = c.index-cores-core.result in
    let vs = c.cores-cores.result.now in
    let there = core_there x vs core c.loop-core-test.true c.cores-cores.ensures in
    let few = (core_from x vs core own c.cores-cores.ensures there c.index-cores-core.is).within in
    grind (arith, few, c.sound.ensures.within.few_events, c.len.ensures, own.ok.0)

pub overflow_add-start : goal.overflow_add-start
overflow_add-start c =
    let x = c.args.recording.now in
    let core = c.loop-core.core in
    let own = c.index-cores-core.result in
    let vs = c.cores-cores.result.now in
    let there = core_there x vs core c.loop-core-test.true c.cores-cores.ensures in
    let few = (core_from x vs core own c.cores-cores.ensures there c.index-cores-core.is).within in
    grind (arith, few, c.loop-core.invariant.start, c.sound.ensures.within.few_events, c.len.ensures, own.ok.0)

pub loop-core-preserved : goal.loop-core-preserved
loop-core-preserved c =
    let x = c.args.recording.now in
    let core = c.loop-core.core in
    let own = c.index-cores-core.result in
    let vs = c.cores-cores.result.now in
    let starts = c.loop-core.starts.items in
    let there = core_there x vs core c.loop-core-test.true c.cores-cores.ensures in
    let more : events_below x (core + 1) ≡ events_below x core + length own.items =
    below_more x core own.items there (core_here x vs core own c.cores-cores.ensures there c.index-cores-core.is) in
    let start : ℕ = c.loop-core.start + c.len.result in
    let next : start ≡ events_below x (core + 1) =
    omega (arith, more, c.len.ensures, own.ok.0, c.loop-core.invariant.start) in
    let now = c.in_ok-push-2.ensures.items in
    record {
      start = next;
      size = omega (
        arith,
        ap (λ (v : List ℕ). length v) now,
        length-append starts (start ∷ []),
        c.loop-core.invariant.size,
      );
      each = subst (λ (v : List ℕ). (k : ℕ) → k ≤ core + 1 → get_or v k 0 ≡ events_below x k) (sym now)
          (starts_more x core start starts c.loop-core.invariant.size c.loop-core.invariant.each next);
    }
