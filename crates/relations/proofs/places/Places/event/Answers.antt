use Rattle.std.proofs.Common.{◌≡◌, ◌<◌, ◌-◌, ◌∙◌, ℕ, List, length, get_or, arith, ap, sym, subst}
use Rattle.std.proofs.lemmas.List.{get_or_read}
use Rattle.recording.specs.declared.event.Event.TheVariants.{F}
use Rattle.recording.specs.Execution.{event_count}
use Rattle.relations.proofs.Indexing.{start_here, starts_last}
use Rattle.relations.proofs.places.Places.event.Goals as goal

pub core_at-core-requires-clause-last : goal.core_at-core-requires-clause-last
core_at-core-requires-clause-last c =
    let x = c.self.inside.recording.now in
    let starts = c.self.inside.starts.items in
    let count : event_count x ≡ event_count c.args.self.now = ap event_count c.self.view_is in
    subst (λ (l : List ℕ). c.args.number < get_or l (length l - 1) 0) (sym c.deref.ensures.value)
    (omega (arith, starts_last x starts c.self.invariant, count, c.requires))

pub index-requires-2 : goal.index-requires-2
index-requires-2 c =
    let own = c.index-cores-core.result in
    let at = start_here c.self.inside.recording.now c.self.inside.starts.items c.deref.result.now c.cores.result.now
    c.core_at-core.result c.args.number c.index.result.now own c.self.invariant c.deref.ensures.value c.cores.ensures
    c.index-cores-core.is c.core_at-core.ensures.within c.core_at-core.ensures.first c.core_at-core.ensures.next
    c.index.ensures in
    omega (arith, at.0, own.ok.0)

pub indexed_event-requires-clause-core : goal.indexed_event-requires-clause-core
indexed_event-requires-clause-core c =
    let at = start_here c.self.inside.recording.now c.self.inside.starts.items c.deref.result.now c.cores.result.now
    c.core_at-core.result c.args.number c.index.result.now c.index-cores-core.result c.self.invariant
    c.deref.ensures.value c.cores.ensures c.index-cores-core.is c.core_at-core.ensures.within
    c.core_at-core.ensures.first c.core_at-core.ensures.next c.index.ensures in
    at.1

pub indexed_event-requires-clause-event : goal.indexed_event-requires-clause-event
indexed_event-requires-clause-event c =
    let own = c.index-cores-core.result in
    let at = start_here c.self.inside.recording.now c.self.inside.starts.items c.deref.result.now c.cores.result.now
    c.core_at-core.result c.args.number c.index.result.now own c.self.invariant c.deref.ensures.value c.cores.ensures
    c.index-cores-core.is c.core_at-core.ensures.within c.core_at-core.ensures.first c.core_at-core.ensures.next
    c.index.ensures in
    at.2 ∙ sym (get_or_read own.items (c.args.number - c.index.result.now) _ at.0 c.index-2.ensures F)
