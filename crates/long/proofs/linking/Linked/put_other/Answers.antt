use Rattle.std.proofs.Common.{◌≡◌, ◌<◌, ℕ, false, refl, subst}
use Rattle.std.proofs.lemmas.Result.{on_ok_weaker}
use Rattle.relations.specs.declared.reason.Reason.TheVariants.{Po}
use Rattle.long.specs.Chains.{times_listed}
use Rattle.long.specs.Steps.{IsLastFrom}
use Rattle.long.proofs.Steps.{last_from, last_one, last_own}
use Rattle.long.proofs.linking.Linked.put_other.Goals as goal

pub put_forced-requires-clause-forced : goal.put_forced-requires-clause-forced
put_forced-requires-clause-forced c =
    let x = c.args.recording.now in
    let start = c.args.start in
    let n = c.args.event.now.number in
    let last : IsLastFrom x start false c.in-Some.first n = rw c.in-Some.is at c.requires.other in
    (Po, (last_own x start false c.in-Some.first n c.requires.start last, rw last.2 refl))

pub returns-in-Some-clause-here : goal.returns-in-Some-clause-here
returns-in-Some-clause-here c =
    let x = c.args.recording.now in
    let start = c.args.start in
    let n = c.args.event.now.number in
    let new = c.put_forced.new.self in
    let there : IsLastFrom x start false c.in-Some.first n = rw c.in-Some.is at c.requires.other in
    on_ok_weaker c.put_forced.result
    (λ put d last.
    let one : c.in-Some.first ≡ d =
    last_one x start false c.in-Some.first d n there (last_from x start false d n c.requires.start last) in
    subst (λ (k : ℕ). 0 < times_listed new.list.items k n) one put)
    c.put_forced.ensures.here

pub returns-in-None-clause-here : goal.returns-in-None-clause-here
returns-in-None-clause-here c d last =
    let x = c.args.recording.now in
    let start = c.args.start in
    let n = c.args.event.now.number in
    let none : (d : ℕ) → ¬ IsLastFrom x start false d n = rw c.in-None.is at c.requires.other in
    absurd (none d (last_from x start false d n c.requires.start last))
