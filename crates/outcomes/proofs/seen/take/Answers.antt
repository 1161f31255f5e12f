use Rattle.std.proofs.Common.{◌∙◌, List, sym, ap, subst}
use Rattle.std.specs.List.{All, Contains}
use Rattle.std.proofs.lemmas.Option.{get_or_from_slice_get, slice_get_within}
use Rattle.situations.specs.Row.{SeenRows}
use Rattle.outcomes.specs.Situation.{beginning}
use Rattle.situations.specs.Situation.{Situation}
use Rattle.outcomes.specs.Reachable.{AreInOrder, Leads, further}
use Rattle.outcomes.proofs.Grown.{on_ok, all_next, next_there, order_next}
use Rattle.outcomes.proofs.SeenRows.{next_fits}
use Rattle.outcomes.proofs.seen.take.Goals as goal

pub add-requires : goal.add-requires
add-requires c =
    next_fits c.args.program.now.cores c.args.seen.now c.args.row.now c.in_ok-next.next c.args.turn.step
    c.args.turn.core c.requires.fits (sym c.in_ok-next.ensures)

pub returns-clause-reached : goal.returns-clause-reached
returns-clause-reached c =
    let at = c.requires.there in
    let led : Leads c.args.program.now.cores (beginning c.args.program.now) c.args.row.now =
    subst (Leads c.args.program.now.cores (beginning c.args.program.now))
    (get_or_from_slice_get c.args.seen.now.keys at.0 c.args.row.now c.args.row.now at.1)
    (c.requires.reached at.0 c.args.row.now (slice_get_within c.args.seen.now.keys at.0 c.args.row.now at.1)) in
    on_ok _ _ c.add.result
    (λ is. subst (All (Leads c.args.program.now.cores (beginning c.args.program.now)))
    (sym (ap (λ (r : SeenRows). r.keys) is))
    (all_next (Leads c.args.program.now.cores (beginning c.args.program.now)) c.args.seen.now.keys c.in_ok-next.next
    c.requires.reached
    (λ r next. further c.args.row.now r c.args.turn.step c.args.turn.core led (sym c.in_ok-next.ensures ∙ next))))
    c.add.ensures

pub returns-clause-order : goal.returns-clause-order
returns-clause-order c =
    on_ok _ _ c.add.result
    (λ is. subst (AreInOrder c.args.program.now) (sym (ap (λ (r : SeenRows). r.keys) is))
    (order_next c.args.program.now c.args.seen.now.keys c.in_ok-next.next c.requires.there.0 c.args.row.now c.args.turn
    c.requires.order c.requires.there.1 (sym c.in_ok-next.ensures))) c.add.ensures

pub returns-clause-next : goal.returns-clause-next
returns-clause-next c =
    on_ok _ _ c.add.result
    (λ is s leads. subst (λ (l : List Situation). Contains l s) (sym (ap (λ (r : SeenRows). r.keys) is))
    (next_there c.args.seen.now.keys c.in_ok-next.next s (c.in_ok-next.ensures ∙ leads))) c.add.ensures
