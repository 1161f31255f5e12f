use Rattle.std.proofs.Common.{◌≡◌, ◌∙◌, ℕ, Some, ap, sym, subst}
use Rattle.relations.specs.declared.reason.Reason.{Reason}
use Rattle.relations.specs.Forced.{IsReason}
use Rattle.verification.proofs.OneText.{one_reason, reason_forces}
use Rattle.verification.proofs.PairsHeld.{reads_pair}
use Rattle.verification.proofs.Spelling.{some_is}
use Rattle.verification.proofs.cycle_lines.next_pair.Goals as goal

pub returns-in_default-clause-only : goal.returns-in_default-clause-only
returns-in_default-clause-only c gap more next reason none first is =
    absurd (c.in_default.not-Some next (reads_pair c.args.places.now c.requires _ _ _ _ _ c.next_number-event.ensures
    c.next_number.ensures gap more c.args.event next reason none first is).0)

pub returns-in_default-reason-clause-only : goal.returns-in_default-reason-clause-only
returns-in_default-reason-clause-only c gap more next reason none first is =
    let x = c.args.places.now in
    let read = reads_pair x c.requires _ _ _ _ _ c.next_number-event.ensures c.next_number.ensures gap more
    c.args.event next reason none first is in
    let same : c.in-Some.next ≡ next = some_is c.in-Some.next next (sym c.in-Some.is ∙ read.0) in
    absurd (c.in_default-reason.ensures (reason_forces x c.args.event c.in-Some.next reason
    (subst (λ (f : ℕ). IsReason x c.args.event f (Some reason)) (sym same) first)))

pub returns-clause-only : goal.returns-clause-only
returns-clause-only c gap more next reason none first is =
    let x = c.args.places.now in
    let read = reads_pair x c.requires _ _ _ _ _ c.next_number-event.ensures c.next_number.ensures gap more
    c.args.event next reason none first is in
    let same : c.in-Some.next ≡ next = some_is c.in-Some.next next (sym c.in-Some.is ∙ read.0) in
    let why : c.in-Some-reason.reason ≡ reason = one_reason x c.args.event next c.in-Some-reason.reason reason
    (subst (λ (f : ℕ). IsReason x c.args.event f (Some c.in-Some-reason.reason)) same c.in-Some-reason.ensures) first in
    (ap (λ (f : ℕ). Some (f, c.in-Some-reason.reason)) same ∙ ap (λ (r : Reason). Some (next, r)) why, read.1)
