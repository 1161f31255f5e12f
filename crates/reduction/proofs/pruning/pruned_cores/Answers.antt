use Rattle.std.proofs.Common.{◌≡◌, ◌<◌, ◌+◌, ◌++◌, ◌∷◌, ◌∙◌, [], ℕ, suc, List, Vec, Global, arith, ap, get_or, length}
use Rattle.std.proofs.Common.{map}
use Rattle.std.proofs.Common.{sym, take}
use Rattle.std.proofs.lemmas.List.{get_or-map, length-map, map_push}
use Rattle.recording.specs.declared.event.Event.{Event}
use Rattle.reduction.specs.Pruned.{pruned_cores, pruned_events}
use Rattle.reduction.proofs.Pruned.{few_with_next, one_core_more, total, total_more, total_none}
use Rattle.reduction.proofs.pruning.pruned_cores.Goals as goal

-- the events of a core
abbrev inside : Vec Event Global → List Event
inside v = v.items

-- what stands at a place of the cores
at : (cores : List (Vec Event Global)) (i : ℕ) (core : Vec Event Global) (events : List Event) → i < length cores
    → core ≡ get_or cores i core → events ≡ core.items → get_or (map inside cores) i [] ≡ events
at cores i core events h is are = get_or-map inside cores i core [] h ∙ (ap inside (sym is) ∙ sym are)

pub loop-core-init : goal.loop-core-init
loop-core-init c = (ap (map inside) c.in_ok-pruned.ensures.items, total_none)

pub pruned_events-requires : goal.pruned_events-requires
pruned_events-requires c =
    let cores = c.cores-cores.result.now in
    let i = c.loop-core.core-index in
    let here = at cores i c.core-item.result c.deref.result.now c.loop-core-test.true c.core-item.is c.deref.ensures.value in
    omega (
      arith,
      c.loop-core.invariant.1,
      ap (λ (l : List Event). length l) here,
      few_with_next c.args.recording.now (map inside cores) c.cores-cores.ensures i
          (omega (arith, c.loop-core-test.true, length-map cores inside)),
      c.sound.ensures.within.few_events,
    )

pub overflow_add-first : goal.overflow_add-first
overflow_add-first c =
    let cores = c.cores-cores.result.now in
    let i = c.loop-core.core-index in
    let here = at cores i c.core-item.result c.deref.result.now c.loop-core-test.true c.core-item.is c.deref.ensures.value in
    omega (
      arith,
      c.loop-core.invariant.1,
      ap (λ (l : List Event). length l) here,
      few_with_next c.args.recording.now (map inside cores) c.cores-cores.ensures i
          (omega (arith, c.loop-core-test.true, length-map cores inside)),
      c.sound.ensures.within.few_events,
      c.len-first.ensures,
      c.deref.ensures.len,
    )

pub loop-core-preserved : goal.loop-core-preserved
loop-core-preserved c =
    let cores = c.cores-cores.result.now in
    let cs : List (List Event) = map inside cores in
    let readers = c.args.readers.now in
    let i = c.loop-core.core-index in
    let one : suc i ≡ i + 1 = omega arith in
    let low : i < length cs = omega (arith, c.loop-core-test.true, length-map cores inside) in
    let here = at cores i c.core-item.result c.deref.result.now c.loop-core-test.true c.core-item.is c.deref.ensures.value in
    let made : c.in_ok-events.events.items ≡ pruned_events readers (0 + total (take i cs)) (get_or cs i []) =
    c.in_ok-events.ensures
    ∙ (ap (λ (n : ℕ). pruned_events readers n c.deref.result.now) (omega (arith, c.loop-core.invariant.1))
    ∙ ap (λ (l : List Event). pruned_events readers (0 + total (take i cs)) l) (sym here)) in (
      ap (map inside) c.in_ok-push.ensures.items
          ∙ (map_push inside c.loop-core.pruned.items c.in_ok-events.events
          ∙ (ap (λ (l : List (List Event)). l ++ c.in_ok-events.events.items ∷ []) c.loop-core.invariant.0
          ∙ (ap (λ (l : List Event). pruned_cores readers 0 (take i cs) ++ l ∷ []) made
          ∙ (sym (one_core_more readers 0 i cs low)
          ∙ ap (λ (k : ℕ). pruned_cores readers 0 (take k cs)) one)))),
      omega (
        arith,
        c.loop-core.invariant.1,
        total_more i cs low,
        ap (λ (l : List Event). length l) here,
        c.len-first.ensures,
        c.deref.ensures.len,
        ap (λ (k : ℕ). total (take k cs)) one,
      ),
    )
