use Rattle.std.proofs.Common.{◌≡◌, ◌<◌, ◌∙◌, ℕ, true, refl, sym, subst}
use Rattle.std.proofs.lemmas.Result.{on_ok_weaker}
use Rattle.recording.specs.Event.{is_plain_load}
use Rattle.recording.specs.Execution.{event_at}
use Rattle.relations.specs.declared.reason.Reason.TheVariants.{Po}
use Rattle.relations.proofs.Written.{unkept_none}
use Rattle.long.specs.Chains.{times_listed}
use Rattle.long.specs.Steps.{IsLastStoreFrom}
use Rattle.long.proofs.Steps.{last_from, last_one, last_own}
use Rattle.long.proofs.linking.Linked.put_store.Goals as goal

pub returns-in_default-clause-here : goal.returns-in_default-clause-here
returns-in_default-clause-here c d last forced =
    let x = c.args.recording.now in
    let start = c.args.start in
    let n = c.args.event.now.number in
    let none : (d : ℕ) → ¬ IsLastStoreFrom x start d n = rw c.in_default.is at c.requires.store in
    absurd (none d (last_from x start true d n c.requires.start last.0, last.1))

pub returns-then-event-clause-here : goal.returns-then-event-clause-here
returns-then-event-clause-here c d last forced =
    let x = c.args.recording.now in
    let n = c.args.event.now.number in
    let load : is_plain_load (event_at x n) ≡ true = sym c.requires.event.is_load ∙ c.if-event.true in
    absurd (unkept_none x c.requires.event.well_formed d n last.0.0 (rw (last.1, load) refl) forced.0 forced.1)

pub put_forced-requires-clause-forced : goal.put_forced-requires-clause-forced
put_forced-requires-clause-forced c =
    let x = c.args.recording.now in
    let start = c.args.start in
    let n = c.args.event.now.number in
    let last : IsLastStoreFrom x start c.in-Some.first n = rw c.in-Some.is at c.requires.store in
    let free = sym c.requires.event.is_load ∙ c.if-event.false in
    (Po, (last_own x start true c.in-Some.first n c.requires.start last.0, rw (last.1, free) refl))

pub returns-clause-here : goal.returns-clause-here
returns-clause-here c =
    let x = c.args.recording.now in
    let start = c.args.start in
    let n = c.args.event.now.number in
    let new = c.put_forced.new.self in
    let there : IsLastStoreFrom x start c.in-Some.first n = rw c.in-Some.is at c.requires.store in
    on_ok_weaker c.put_forced.result
    (λ put d last forced.
    let one : c.in-Some.first ≡ d =
    last_one x start true c.in-Some.first d n there.0 (last_from x start true d n c.requires.start last.0) in
    subst (λ (k : ℕ). 0 < times_listed new.list.items k n) one put)
    c.put_forced.ensures.here
